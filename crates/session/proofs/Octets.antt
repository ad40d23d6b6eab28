-- What is written reads back: frames of legal units (by crate frame's `frame_back` and `data_back`) and control words (by crate clcw's
-- `word_back`).
use mathlib.Core.Path.{◌≡◌, refl, sym, ap, ◌∙◌}
use mathlib.Core.Bool.{Bool, true, false, ◌&&◌}
use mathlib.Core.List.{List, [], ◌∷◌, ◌++◌, append-nil}
use mathlib.Core.Option.{none, some}
use Prim.Native.Nat.{ℕ, ◌+◌, ◌*◌, ◌≤◌, ◌<◌}
use native.Mathlib.Omega.{arith}
use lib.Dec.{leb, ltb}
use lib.ListN.{length}
use borrow.Author.Tests.{leb-true, le-leb, ltb-true, lt-ltb}
use Rattle.base.specs.Choice.{pick, must}
use Rattle.base.specs.Limits.{largest_channel, largest_unit, largest_spacecraft}
use Rattle.base.specs.Outcome.{Outcome.done, Outcome.refused}
use Rattle.base.specs.Octets.{Octets}
use Rattle.base.specs.Flags.{bit_of}
use Rattle.base.proofs.Tests.{bit_le}
use Rattle.fop.specs.Units.{Fdu, AD, BD, Word, valid, Own, are_octets, legal, written, word_octets, read_word, word_received}
use Rattle.frame.specs.Frame.{frame_of, data_of}
use Rattle.frame.specs.Answers.{reading_of, part_of}
use Rattle.frame.specs.declared.Kind.{Kind}
use Rattle.frame.specs.declared.Kind.TheVariants as kind
use Rattle.std.specs.Prelude.{Ok, Err}
use Rattle.base.specs.declared.Refusal.TheVariants.{Length}
use Rattle.frame.proofs.Back as fback
use Rattle.clcw.specs.Clcw.{clcw_of, writing}
use Rattle.clcw.specs.Answers as word_reading
use Rattle.clcw.specs.declared.Clcw.{Clcw}
use Rattle.clcw.proofs.Word as word
use Rattle.clcw.proofs.Back as cback
use Rattle.session.specs.Frames.{read}
use Rattle.session.specs.Receiver.{word_length, WordAnswer, word_told}
use Rattle.session.specs.Ends.{largest_counter}
use Rattle.fop.proofs.Choices.{and_both}

pub octets_are : (o : List ℕ) → are_octets o ≡ true → Octets o
octets_are [] e = tt
octets_are (x ∷ o) e = let h = and_both (ltb x 256) (are_octets o) e in (ltb-true x 256 h.0, octets_are o h.1)

pub legal_is : (o : List ℕ) → legal o ≡ true → (1 ≤ length o) × (length o ≤ largest_unit) × Octets o
unfolding legal
legal_is o e =
    let h = and_both (leb 1 (length o)) (leb (length o) largest_unit && are_octets o) e in
    let k = and_both (leb (length o) largest_unit) (are_octets o) h.1 in
    (leb-true _ _ h.0, leb-true _ _ k.0, octets_are o k.1)

module _ (own : Own) (sc : own.spacecraft ≤ largest_spacecraft) (ch : own.channel ≤ largest_channel) where
  -- a frame with nothing behind it
  reading_back : (k : Kind) (o : List ℕ) → fback.Legal k o
      → reading_of (frame_of own.spacecraft own.channel k o) own.spacecraft own.channel
      ≡ Ok (record {
        kind = k;
        spacecraft = own.spacecraft;
        channel = own.channel;
        total = length (data_of k o) + 7;
        field = length (data_of k o);
      })
  reading_back k o l =
      rw (append-nil (frame_of own.spacecraft own.channel k o)) at (fback.frame_back own.spacecraft own.channel k o [] sc ch l (omega arith) tt)

  part_back : (k : Kind) (o : List ℕ) → fback.Legal k o
      → part_of (frame_of own.spacecraft own.channel k o) own.spacecraft own.channel ≡ data_of k o
  part_back k o l =
      rw (append-nil (frame_of own.spacecraft own.channel k o)) at (fback.data_back own.spacecraft own.channel k o [] sc ch l (omega arith) tt)

  -- with fill behind it, it is read as without
  pub filled_back : (k : Kind) (o fill : List ℕ) → fback.Legal k o → length fill ≤ 6 → Octets fill
      → (reading_of (frame_of own.spacecraft own.channel k o ++ fill) own.spacecraft own.channel
      ≡ reading_of (frame_of own.spacecraft own.channel k o) own.spacecraft own.channel)
      × (part_of (frame_of own.spacecraft own.channel k o ++ fill) own.spacecraft own.channel
      ≡ part_of (frame_of own.spacecraft own.channel k o) own.spacecraft own.channel)
  filled_back k o fill l few h = (
    fback.frame_back own.spacecraft own.channel k o fill sc ch l few h ∙ sym (reading_back k o l),
    fback.data_back own.spacecraft own.channel k o fill sc ch l few h ∙ sym (part_back k o l),
  )

  pub ad_legal : (u : Fdu) → legal u.octets ≡ true → u.ns < 256 → fback.Legal (kind.Ad u.ns) u.octets
  ad_legal u l b = let g = legal_is u.octets l in (b, g.0, g.1, g.2)

  pub bd_legal : (o : List ℕ) → legal o ≡ true → fback.Legal kind.Bd o
  bd_legal o l = let g = legal_is o l in (g.0, g.1, g.2)

  -- a written frame, as the receiver reads it
  pub ad_reading : (u : Fdu) → legal u.octets ≡ true → u.ns < 256
      → reading_of (written own (AD u)) own.spacecraft own.channel
      ≡ Ok (record {
        kind = kind.Ad u.ns;
        spacecraft = own.spacecraft;
        channel = own.channel;
        total = length u.octets + 7;
        field =
            length u.octets;
      })
  unfolding written
  ad_reading u l b = reading_back (kind.Ad u.ns) u.octets (ad_legal u l b)

  pub ad_part : (u : Fdu) → legal u.octets ≡ true → u.ns < 256 → part_of (written own (AD u)) own.spacecraft own.channel ≡ u.octets
  unfolding written
  ad_part u l b = part_back (kind.Ad u.ns) u.octets (ad_legal u l b)

  pub bd_reading : (o : List ℕ) → legal o ≡ true
      → reading_of (written own (BD o)) own.spacecraft own.channel
      ≡ Ok (record { kind = kind.Bd; spacecraft = own.spacecraft; channel = own.channel; total = length o + 7; field = length o })
  unfolding written
  bd_reading o l = reading_back kind.Bd o (bd_legal o l)

  pub bd_part : (o : List ℕ) → legal o ≡ true → part_of (written own (BD o)) own.spacecraft own.channel ≡ o
  unfolding written
  bd_part o l = part_back kind.Bd o (bd_legal o l)

  -- and as the histories read it
  pub ad_back : (u : Fdu) → legal u.octets ≡ true → u.ns < 256 → read own (written own (AD u)) ≡ AD u
  unfolding read
  ad_back u l b = rw (ad_reading u l b, ad_part u l b)

  pub bd_back : (o : List ℕ) → legal o ≡ true → read own (written own (BD o)) ≡ BD o
  unfolding read
  bd_back o l = rw (bd_reading o l, bd_part o l)

  -- a control word
  abbrev clcw : Word → Clcw
  clcw w =
      record { channel = own.channel; lockout = w.lockout; wait = w.wait; retransmit = w.retransmit; counter = w.counter; report = w.nr }

  word_octets_lem : (w : Word) → w.counter ≤ 3 → w.nr < 256 → are_octets (clcw_of (clcw w)) ≡ true
  word_octets_lem w c b =
      let flags : ℕ = bit_of w.lockout * 0x20 + bit_of w.wait * 0x10 + bit_of w.retransmit * 0x08 + w.counter * 2 in
      let small : flags < 256 = omega (arith, bit_le w.lockout, bit_le w.wait, bit_le w.retransmit, c) in
      ap are_octets (word.octets_are (clcw w) ch c b)
      ∙ ap (λ (t : Bool). t && (ltb flags 256 && (ltb w.nr 256 && true))) (lt-ltb (own.channel * 4) 256 (omega (arith, ch)))
      ∙ ap (λ (t : Bool). t && (ltb w.nr 256 && true)) (lt-ltb flags 256 small)
      ∙ ap (λ (t : Bool). t && true) (lt-ltb w.nr 256 b)

  pub word_back : (w : Word) → w.counter ≤ 3 → w.nr < 256 → read_word own (word_octets own w) ≡ valid w
  unfolding read_word word_octets
  word_back w c b =
      ap (λ (t : Bool). word_received (pick t (word_reading.reading_of (clcw_of (clcw w)) own.channel) (Err Length))) (word_octets_lem w c b) ∙ ap word_received (cback.word_back (clcw w) ch c b)

-- what is told of a word's octets where its room is lent, and where it is not
abbrev pub told_if : Bool → List ℕ → WordAnswer
told_if lent octets = pick lent (record { refusal = 0; word = some octets }) (record { refusal = 11; word = none })

-- a word whose channel and counter are within their limits is refused for want of room only
pub word_told_lem : (c : Clcw) (lent : ℕ) → c.channel ≤ largest_channel → c.counter ≤ largest_counter
    → word_told (writing c lent) ≡ told_if (leb word_length lent) (clcw_of c)
unfolding writing
word_told_lem c lent h k = rw (le-leb c.channel largest_channel h, le-leb c.counter largest_counter k) (go (leb word_length lent))
  where
    go : (b : Bool) → word_told (must b (refused 11 0) (done (clcw_of c) tt)) ≡ told_if b (clcw_of c)
    go true = refl
    go false = refl
