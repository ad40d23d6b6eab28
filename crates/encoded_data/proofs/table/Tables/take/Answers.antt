use borrow.Author.Rules.{rules}
use mathlib.Core.Path.{◌≡◌, refl, sym, ap, ap₂, ◌∙◌}
use Prim.Native.Nat.{ℕ, ◌+◌, ◌-◌, ◌*◌, ◌/◌, ◌≤◌}
use native.Mathlib.Omega.{arith}
use mir.Val.{bool_byte}
use lib.ListN.{length, take, length-take}
use Rattle.std.specs.Prelude.{Option, Some, None}
use Rattle.std.specs.Option.{is_some}
use Rattle.codeblock.specs.Codeblock.{good, judged, is_good}
use Rattle.codeblock.specs.Table.{righted, corrections, judged_by}
use Rattle.codeblock.proofs.ByTable.{righted_seven, length_righted}
use Rattle.memory.specs.Placed.{placed}
use Rattle.memory.proofs.Laws.{placed_mid}
use Rattle.encoded_data.specs.EncodedData.{corrected_in}
use Rattle.encoded_data.proofs.Scan.{taken_none, taken_bad, taken_all, taken_more, left_all, left_none, left_next, left_some, left_more}
use Rattle.encoded_data.proofs.table.Tables.take.Goals as goal

-- a wrong bit is one correction
counted : (wrong : Option ℕ) → bool_byte (is_some wrong) ≡ corrections wrong
counted None = refl
counted (Some bit) = refl

few : (wrong : Option ℕ) → corrections wrong ≤ 1
few None = omega arith
few (Some bit) = omega arith

pub loop-n-init : goal.loop-n-init
loop-n-init c = (
  taken_none (judged c.args.mode) (length c.args.input.now / 8) c.args.input.now c.args.information.now (search rules),
  left_all (search rules) (search rules) (search rules),
  search rules,
  search rules,
)

pub returns-in_default-clause-run : goal.returns-in_default-clause-run
returns-in_default-clause-run c =
    let j = judged c.args.mode in
    let t = c.loop-n.invariant.0 in
    let l = c.loop-n.invariant.1 in
    let s = c.in-Some.ensures.steps in
    let block = c.in-Some.block.now in
    let bad = ap is_good (c.wrong_bit.ensures ∙ ap (λ (r : Option (Option ℕ)). judged_by r block) c.in_default.is) in
    (s.1 ∙ sym (taken_bad j t (j block) (ap j (left_next l t.within block _ s.0.1)) bad), t.count ∙ ap (λ (n : ℕ). corrected_in j n c.args.input.now) (sym s.1))

pub loop-n-preserved : goal.loop-n-preserved
loop-n-preserved c =
    let j = judged c.args.mode in
    let t = c.loop-n.invariant.0 in
    let l = c.loop-n.invariant.1 in
    let s = c.in-Some.ensures.steps in
    let block = c.in-Some.block.now in
    let wrong = c.in-Some-wrong_bit.wrong in
    let information = righted wrong (take 7 block) in
    let one : c.from-corrected.result ≡ corrections wrong = c.from-corrected.ensures ∙ ap bool_byte c.is_some.ensures ∙ counted wrong in
    let e : j block ≡ good information c.from-corrected.result =
    c.wrong_bit.ensures ∙ ap (λ (r : Option (Option ℕ)). judged_by r block) c.in-Some-wrong_bit.is ∙ ap₂ good (righted_seven wrong block) (sym one) in
    let seven : length information ≡ 7 = length_righted wrong (take 7 block) ∙ length-take 7 block ∙ search rules in
    let there = left_some l t.within block _ s.0.1 in
    let at = 7 * c.in-Some.n in
    let place : at ≡ 7 * c.loop-n.n-iterator.count = ap (λ (n : ℕ). 7 * n) s.1 in
    let long : at + 7 - at ≡ length information = omega (arith, seven) in
    let room : at + length information ≤ length c.loop-n.information = omega (arith, there, seven, place, c.loop-n.auto.information, c.requires) in (
      taken_more j t information c.from-corrected.result (sym e ∙ ap j (left_next l t.within block _ s.0.1)) there seven (omega (arith, one, few wrong)) c.requires
          (placed_mid c.loop-n.information at (at + 7 - at) information _ c.put_information.ensures long room ∙ ap (λ (n : ℕ). placed c.loop-n.information n information) place) s.2,
      left_more l t.within block _ s.0.1 s.0.0 s.2,
      search rules,
      search rules,
    )

pub returns-clause-run : goal.returns-clause-run
returns-clause-run c =
    let j = judged c.args.mode in
    let t = c.loop-n.invariant.0 in
    let all = left_none c.loop-n.invariant.1 t.within c.in-None.ensures.steps.0.1.0 in
    (sym (taken_all j t (omega (arith, all)) ∙ all), t.count ∙ ap (λ (n : ℕ). corrected_in j n c.args.input.now) all)
