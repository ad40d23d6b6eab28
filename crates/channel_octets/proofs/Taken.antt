-- The receiver with the first records taken out of the octets: none (`none_taken`), one more (`one_taken`), all (`all_taken`).
use mathlib.Core.Path.{◌≡◌, sym, ap, ◌∙◌}
use mathlib.Core.List.{List, ◌++◌}
use Prim.Native.Nat.{ℕ, ◌+◌, ◌*◌, ◌-◌, ◌/◌, ◌<◌}
use native.Mathlib.Omega.{arith}
use lib.ListN.{length, take, drop, get_or}
use Rattle.base.proofs.Lists.{rest}
use Rattle.receiver.specs.declared.Channel.{Channel}
use Rattle.channels.specs.declared.Channels.{Channels}
use Rattle.channels.specs.Limits.{largest_channels}
use Rattle.channels.specs.Table.{no_record}
use Rattle.channel_table.specs.Taken.{few_of, no_records, empty_of, with_record, taken_of}
use Rattle.channel_table.proofs.Lists.{copied_at}
use Rattle.channel_octets.specs.Kept.{record_octets, record_in, records_in}
use Rattle.channel_octets.proofs.Table.{length_records, record_at_lem}

-- with the first i of some records
abbrev pub partly : ℕ → ℕ → List Channel → ℕ → Channels
partly spacecraft pool cs i = record { spacecraft = spacecraft; pool = pool; count = length cs; records = take i cs ++ drop i no_records }

module _ (spacecraft pool : ℕ) (o : List ℕ) where
  abbrev held : ℕ → Channels
  held i = partly spacecraft pool (records_in o) i

  count_is : length (records_in o) ≡ length o / record_octets
  count_is = length_records (length o / record_octets) o

  pub none_taken : (s : Channels) → s ≡ empty_of spacecraft pool (length o / record_octets) → s ≡ held 0
  none_taken s e = e ∙ ap (empty_of spacecraft pool) (sym count_is)

  pub one_taken : (i : ℕ) → i < length o / record_octets → i < largest_channels → (s r : Channels) (c : Channel) → s ≡ held i
      → c ≡ record_in (take (length o - i * record_octets) (drop (i * record_octets) o)) → r ≡ with_record s i c → r ≡ held (i + 1)
  one_taken i h k s r c es ec er =
      let same : c ≡ get_or (records_in o) i no_record =
      ec ∙ ap record_in (rest o (i * record_octets)) ∙ sym (record_at_lem (length o / record_octets) i o no_record h) in
      let there : i < length (records_in o) = omega (arith, count_is) in
      er
      ∙ ap (λ (x : Channels). with_record x i c) es
      ∙ ap (with_record (held i) i) same
      ∙ ap (having (held i)) (copied_at (records_in o) no_records i no_record there k)
    where
      having : Channels → List Channel → Channels
      having s cs = record { spacecraft = s.spacecraft; pool = s.pool; count = s.count; records = cs }

  pub all_taken : (n i : ℕ) → n ≡ few_of (length o / record_octets) → i ≡ n → (s : Channels) → s ≡ held i → s ≡ taken_of spacecraft pool (records_in o)
  all_taken n i f e s es = es ∙ ap held (e ∙ f ∙ ap few_of (sym count_is))
