-- Each return is one of the checks of lengths, in their order, with the length that the header says.
use mathlib.Core.Path.{◌≡◌, sym, ap, ◌∙◌}
use mathlib.Core.List.{List}
use Prim.Native.Nat.{ℕ}
use Rattle.base.specs.Refusals.{result_number, by_number}
use Rattle.base.proofs.Tests.{tests}
use Rattle.frame.specs.Frame.{total_of, content_refusal, refusal_of}
use Rattle.frame.proofs.Named.{by_same, named_content}
use Rattle.frame.proofs.Octets.{length_checks, length_checks_lem}
use Rattle.frame.proofs.judge.Goals.{then-n-lt-SMALLEST_FRAME-via-then-n-lt-SMALLEST_FRAME, then-n-lt-SMALLEST_FRAME-via-else-n-lt-SMALLEST_FRAME+then-octets-n}
use Rattle.frame.proofs.judge.Goals as goal

-- what the checks with that length give is the refusal
judged : (s : List ℕ) (n spacecraft channel : ℕ) {number : ℕ} → n ≡ total_of s → number ≡ length_checks s n spacecraft channel → number ≡ refusal_of s spacecraft channel
judged s n spacecraft channel e g = g ∙ sym (length_checks_lem s n spacecraft channel e)

-- and so its name, too
both_told : (s : List ℕ) (spacecraft channel : ℕ) {number : ℕ} → number ≡ refusal_of s spacecraft channel
    → (by_number {A = Unit {0}} number tt ≡ by_number (refusal_of s spacecraft channel) tt) × (number ≡ refusal_of s spacecraft channel)
both_told s spacecraft channel e = (by_same {A = Unit {0}} tt e, e)

pub returns-then-octets-lt-SMALLEST_FRAME : goal.returns-then-octets-lt-SMALLEST_FRAME
unfolding refusal_of
returns-then-octets-lt-SMALLEST_FRAME c =
    let p = both_told c.args.octets.now c.args.spacecraft c.args.channel {number = 4} (search tests) in record { value = p.0; number = p.1 }

pub returns-then-n-lt-SMALLEST_FRAME : goal.returns-then-n-lt-SMALLEST_FRAME
returns-then-n-lt-SMALLEST_FRAME c =
    let e : 4 ≡ refusal_of c.args.octets.now c.args.spacecraft c.args.channel = elim c.then-n-lt-SMALLEST_FRAME.branch [
      | then-n-lt-SMALLEST_FRAME-via-then-n-lt-SMALLEST_FRAME w ↦ judged _ _ _ _ c.total-n.ensures (search (tests, w.if-n-lt-SMALLEST_FRAME.true))
      | then-n-lt-SMALLEST_FRAME-via-else-n-lt-SMALLEST_FRAME+then-octets-n w ↦ judged _ _ _ _ c.total-n.ensures (search (tests, w.if-n-lt-SMALLEST_FRAME.false, w.if-octets-n.true))
    ] in
    let p = both_told c.args.octets.now c.args.spacecraft c.args.channel e in record { value = p.0; number = p.1 }

pub returns-then-n-octets : goal.returns-then-n-octets
returns-then-n-octets c =
    let p = both_told c.args.octets.now c.args.spacecraft c.args.channel {number = 5} (judged _ _ _ _ c.total-n.ensures (search tests)) in record { value = p.0; number = p.1 }

pub returns : goal.returns
returns c =
    let s = c.args.octets.now in
    let e : content_refusal s c.total-n.result c.args.spacecraft c.args.channel ≡ refusal_of s c.args.spacecraft c.args.channel = judged _ _ _ _ c.total-n.ensures (search tests) in
    record { value = c.judge_content.ensures ∙ by_same {A = Unit {0}} tt e; number = ap result_number c.judge_content.ensures ∙ named_content {A = Unit {0}} tt s c.total-n.result c.args.spacecraft c.args.channel ∙ e }
