-- The other way: every frame that was read, written again from what was read, is the frame that was lent without its fill (`again`). The
-- kind gives the flags and the data back, and the number too: a type-B frame that was read has zero there, and zero is written.
use mathlib.Core.Path.{◌≡◌, refl, sym, ap, ◌∙◌}
use mathlib.Core.Bool.{Bool, true, false}
use mathlib.Core.List.{List, ◌∷◌, ◌++◌}
use Prim.Native.Nat.{ℕ, zero, suc, ◌+◌, ◌-◌, ◌*◌, ◌/◌, ◌%◌, ◌<◌, ◌≤◌}
use native.Mathlib.Omega.{arith}
use borrow.Author.Tests.{eq-eqb, eqb-true}
use lib.Dec.{eqb}
use lib.ListN.{length, take, drop, get_or, length-drop}
use lib.Seq.{take-add, get_or-drop}
use Rattle.base.specs.Choice.{pick}
use Rattle.base.specs.Fields.{field_at}
use Rattle.base.specs.Octets.{Octets, same}
use Rattle.base.specs.Limits.{largest_frame}
use Rattle.base.proofs.Lists.{same_equal, take_next, octets_at_lem}
use Rattle.base.proofs.Tests.{apart}
use Rattle.fecf.specs.Fecf.{fecf_of, syndrome_of, field_octets}
use Rattle.frame_header.specs.Header.{bypass_flag, control_command_flag, frame_sequence_number, valid_combination, valid_number}
use Rattle.frame_header.proofs.Octets.{o, version_is, spare_is, bypass_is, control_is, spacecraft_is, channel_is, number_is}
use Rattle.frame.specs.Frame.{bypass_of, control_of, number_of, unlock_command, set_vr_command, data_of, body_of, raw_frame, frame_of, total_of, data_field, is_command, command_held, refusal_of, kind_of}
use Rattle.frame.specs.declared.Kind.{Kind}
use Rattle.frame.specs.declared.Kind.TheVariants.{Ad, Bd, Unlock, SetVr}
use Rattle.frame.proofs.Octets.{total_is, total_most, length_data}
use Rattle.frame.proofs.Content.{octets_take, take_frame, content_test}
use Rattle.frame.proofs.Accepted.{Accepted, accepted}
use Rattle.frame.proofs.Written.{Fits, body_is}

-- a kind gives the flags, the number and the data back
record Told (kind : Kind) (bypass control number : ℕ) (data' : List ℕ) : Type 0 where
  bypassed : bypass_of kind ≡ bypass
  controlled : control_of kind ≡ control
  ordered : control ≤ bypass
  kept : data_of kind data' ≡ data'
  numbered : number_of kind ≡ number

abbrev kind_for : ℕ → ℕ → ℕ → List ℕ → Kind
kind_for bypass control number data' =
    pick (eqb control 1) (pick (same data' unlock_command) Unlock (SetVr (get_or data' 2 0))) (pick (eqb bypass 1) Bd (Ad number))

-- a type-B frame's number is zero
type_b_lem : (kind : Kind) {control number : ℕ} {data' : List ℕ} → control ≤ 1 → valid_number 1 number ≡ true
    → bypass_of kind ≡ 1 → control_of kind ≡ control → number_of kind ≡ 0 → data_of kind data' ≡ data'
    → Told kind 1 control number data'
type_b_lem kind {number = number} c v b e z k = record {
  bypassed = b;
  controlled = e;
  ordered = c;
  kept = k;
  numbered = z ∙ sym (eqb-true number 0 v);
}

told : (bypass control number : ℕ) (data' : List ℕ) → bypass ≤ 1 → control ≤ 1 → valid_combination bypass control ≡ true → valid_number bypass number ≡ true
    → pick (eqb control 1) (is_command data') true ≡ true → Told (kind_for bypass control number data') bypass control number data'
unfolding is_command
told zero zero number data' hb hc type v held = record {
  bypassed = refl;
  controlled = refl;
  ordered = omega arith;
  kept = refl;
  numbered = refl;
}
told (suc zero) zero number data' hb hc type v held = type_b_lem Bd (omega arith) v refl refl refl refl
told zero (suc zero) number data' hb hc type v held = absurd (apart type)
told (suc zero) (suc zero) number data' hb hc type v held = go (same data' unlock_command) refl held
  where
    go : (b : Bool) → same data' unlock_command ≡ b → pick b true (same data' (set_vr_command (get_or data' 2 0))) ≡ true
        → Told (pick b Unlock (SetVr (get_or data' 2 0))) 1 1 number data'
    go true e t = type_b_lem Unlock (omega arith) v refl refl refl (sym (same_equal data' unlock_command e))
    go false e t = type_b_lem (SetVr (get_or data' 2 0)) (omega arith) v refl refl refl (sym (same_equal data' (set_vr_command (get_or data' 2 0)) t))
told zero (suc (suc control)) number data' hb hc type v held = absurd (omega arith)
told (suc zero) (suc (suc control)) number data' hb hc type v held = absurd (omega arith)
told (suc (suc bypass)) control number data' hb hc type v held = absurd (omega arith)

-- the first two octets of a header with version and spare zero, by its fields
high_octet : (x z b c spacecraft : ℕ) → z < 256 → x / 64 ≡ 0 → x / 4 % 4 ≡ 0 → b ≡ x / 32 % 2 → c ≡ x / 16 % 2 → x % 4 * 256 + z ≡ spacecraft
    → b * 32 + c * 16 + spacecraft / 256 ≡ x
high_octet x z b c spacecraft hz version spare eb ec es =
    let q : spacecraft / 256 ≡ x % 4 = omega arith in
    let r : x ≡ (x / 32 % 2) * 32 + (x / 16 % 2) * 16 + x % 4 = parts x version spare in
    omega (arith, q, r, eb, ec)
  where
    parts : (x : ℕ) → x / 64 ≡ 0 → x / 4 % 4 ≡ 0 → x ≡ (x / 32 % 2) * 32 + (x / 16 % 2) * 16 + x % 4
    parts x a b =
        let u : x / 4 ≡ x / 16 * 4 = omega arith in
        let v : x / 16 ≡ x / 32 * 2 + x / 16 % 2 = omega arith in
        let w : x / 32 % 2 ≡ x / 32 = omega arith in
        omega (arith, u, v, w)

low_octet : (x z spacecraft : ℕ) → z < 256 → x % 4 * 256 + z ≡ spacecraft → spacecraft % 256 ≡ z
low_octet x z spacecraft hz e = omega arith

module _ (octets : List ℕ) (spacecraft channel : ℕ) (h : Octets octets) (e : refusal_of octets spacecraft channel ≡ 0) where
  y : Accepted octets spacecraft channel
  y = accepted octets spacecraft channel e

  at : (i : ℕ) → get_or octets i 0 < 256
  at = octets_at_lem octets h

  bypass_here : field_at bypass_flag octets ≡ o octets 0 / 32 % 2
  bypass_here = bypass_is octets at y.header.entire

  control_here : field_at control_command_flag octets ≡ o octets 0 / 16 % 2
  control_here = control_is octets at y.header.entire

  number_here : field_at frame_sequence_number octets ≡ o octets 4
  number_here = number_is octets at y.header.entire

  told_here : Told (kind_of octets) (field_at bypass_flag octets) (field_at control_command_flag octets) (field_at frame_sequence_number octets) (data_field octets (total_of octets))
  unfolding kind_of command_held
  told_here =
      told (field_at bypass_flag octets) (field_at control_command_flag octets) (field_at frame_sequence_number octets) (data_field octets (total_of octets))
      (omega (arith, bypass_here)) (omega (arith, control_here)) y.header.combination y.header.sequence y.held

  length_unit : length (data_field octets (total_of octets)) ≡ total_of octets - 7
  length_unit = length_data octets (total_of octets) y.low y.whole

  -- header and data, as they were lent
  lent_body : take (total_of octets - 2) octets
      ≡ o octets 0 ∷ o octets 1 ∷ o octets 2 ∷ o octets 3 ∷ o octets 4 ∷ data_field octets (total_of octets)
  unfolding data_field
  lent_body =
      let k : 8 ≤ length octets = y.lent in
      let l : 8 ≤ total_of octets = y.low in
      let n : total_of octets - 2 ≡ 5 + (total_of octets - 7) = omega arith in
      ap (λ (j : ℕ). take j octets) n
      ∙ take-add 5 (total_of octets - 7) octets
      ∙ ap (λ (x : List ℕ). x ++ take (total_of octets - 7) (drop 5 octets))
      (take_next octets 4 0 (omega arith)
      ∙ ap (λ (x : List ℕ). o octets 0 ∷ x) (take_next octets 3 1 (omega arith)
      ∙ ap (λ (x : List ℕ). o octets 1 ∷ x) (take_next octets 2 2 (omega arith)
      ∙ ap (λ (x : List ℕ). o octets 2 ∷ x) (take_next octets 1 3 (omega arith)
      ∙ ap (λ (x : List ℕ). o octets 3 ∷ x) (take_next octets 0 4 (omega arith))))))

  fits : Fits (field_at bypass_flag octets) (field_at control_command_flag octets) (field_at frame_sequence_number octets) spacecraft channel (data_field octets (total_of octets))
  unfolding data_field
  fits =
      let l : 8 ≤ total_of octets = y.low in
      let m : total_of octets ≤ largest_frame = total_most octets at y.lent in
      record {
        flag = omega (arith, bypass_here);
        type = told_here.ordered;
        ns = omega (arith, number_here, at 4);
        sequence = y.header.sequence;
        address = omega (arith, spacecraft_is octets at y.header.entire, y.our_spacecraft, at 1);
        virtual = omega (arith, channel_is octets at y.header.entire, y.our_channel, at 2);
        low = omega (arith, length_unit);
        high = omega (arith, length_unit);
        octets = octets_part;
      }
    where
      octets_part : Octets (take (total_of octets - 7) (drop 5 octets))
      octets_part =
          octets_take (drop 5 octets) (total_of octets - 7) (λ i. omega (arith, get_or-drop 5 octets i 0, at (5 + i))) (omega (arith, length-drop 5 octets, y.whole))

  -- and as they are written again
  written_body : body_of (bypass_of (kind_of octets)) (control_of (kind_of octets)) (number_of (kind_of octets)) spacecraft channel (data_of (kind_of octets) (data_field octets (total_of octets)))
      ≡ take (total_of octets - 2) octets
  written_body =
      let unit = data_field octets (total_of octets) in
      let number = field_at frame_sequence_number octets in
      let l : 8 ≤ total_of octets = y.low in
      let m : total_of octets ≤ largest_frame = total_most octets at y.lent in
      let v : o octets 0 / 64 ≡ 0 = sym (version_is octets at y.header.entire) ∙ y.header.version_zero in
      let r : o octets 0 / 4 % 4 ≡ 0 = sym (spare_is octets at y.header.entire) ∙ y.header.spare_zero in
      let s : o octets 0 % 4 * 256 + o octets 1 ≡ spacecraft = sym (spacecraft_is octets at y.header.entire) ∙ y.our_spacecraft in
      let c : o octets 2 / 4 ≡ channel = sym (channel_is octets at y.header.entire) ∙ y.our_channel in
      let n = total_is octets at y.lent in
      let p : field_at bypass_flag octets * 32 + field_at control_command_flag octets * 16 + spacecraft / 256 ≡ o octets 0 =
      high_octet (o octets 0) (o octets 1) (field_at bypass_flag octets) (field_at control_command_flag octets) spacecraft (at 1) v r bypass_here control_here s in
      let q : spacecraft % 256 ≡ o octets 1 = low_octet (o octets 0) (o octets 1) spacecraft (at 1) s in
      let w : channel * 4 + (length unit + 7 - 1) / 256 ≡ o octets 2 = omega (arith, length_unit, at 3) in
      let x : (length unit + 7 - 1) % 256 ≡ o octets 3 = omega (arith, length_unit, at 3) in
      let z : field_at frame_sequence_number octets ≡ o octets 4 = number_here in
      let g : ◌≡◌ {A = List ℕ}
      ((field_at bypass_flag octets * 32 + field_at control_command_flag octets * 16 + spacecraft / 256) ∷ (spacecraft % 256) ∷ (channel * 4 + (length unit + 7 - 1) / 256) ∷ ((length unit + 7 - 1) % 256) ∷ number ∷ unit)
      (o octets 0 ∷ o octets 1 ∷ o octets 2 ∷ o octets 3 ∷ o octets 4 ∷ unit) = cc in
      rw (told_here.bypassed, told_here.controlled, told_here.numbered, told_here.kept)
      (body_is (field_at bypass_flag octets) (field_at control_command_flag octets) number spacecraft channel unit fits
      ∙ g
      ∙ sym lent_body)

  pub again : frame_of spacecraft channel (kind_of octets) (data_field octets (total_of octets)) ≡ take (total_of octets) octets
  unfolding raw_frame
  again =
      let t = take (total_of octets - 2) octets in
      let f : o octets (total_of octets - 2) * 256 + o octets (total_of octets - 1) ≡ fecf_of t =
      eqb-true (o octets (total_of octets - 2) * 256 + o octets (total_of octets - 1)) (fecf_of t)
      (sym (content_test octets (total_of octets) at y.low y.whole) ∙ eq-eqb (syndrome_of (take (total_of octets) octets)) 0 y.syndrome) in
      ap (λ (x : List ℕ). x ++ field_octets (fecf_of x)) written_body
      ∙ ap (λ (x : ℕ). t ++ field_octets x) (sym f)
      ∙ sym (take_frame octets (total_of octets) at y.low y.whole)
