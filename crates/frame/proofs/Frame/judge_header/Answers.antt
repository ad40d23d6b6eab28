-- Each return is one of the checks of the header, in their order: the header's validity as its crate answers, then the checks by the
-- octets that hold the fields.
use borrow.Author.Rules.{rules}
use mathlib.Core.Path.{◌≡◌, sym, ◌∙◌}
use mathlib.Core.Bool.{true, false}
use mathlib.Core.List.{List}
use Prim.Native.Nat.{ℕ, ◌+◌, ◌*◌, ◌/◌, ◌%◌, ◌<◌, ◌≤◌}
use native.Mathlib.Omega.{arith}
use lib.ListN.{length, get_or}
use Rattle.base.proofs.Tests.{tests}
use Rattle.frame_header.specs.Header.{valid_header}
use Rattle.frame_header.proofs.Octets.{o}
use Rattle.frame.specs.Frame.{header_refusal}
use Rattle.base.specs.Refusals.{by_number}
use Rattle.frame.proofs.Named.{by_same}
use Rattle.frame.proofs.Octets.{checks, header_checks}
use Rattle.frame.proofs.Frame.judge_header.Goals.{then-from_be_bytes-spacecraft-via-then-from_be_bytes-spacecraft, then-from_be_bytes-spacecraft-via-else-from_be_bytes-spacecraft+then-octets-channel, else-first-eq1-via-then-first-eq1+else-not-is_command, else-first-eq1-via-else-first-eq1}
use Rattle.frame.proofs.Frame.judge_header.Goals as goal

-- what the checks of the octets give is the refusal
judged : (s : List ℕ) (n spacecraft channel : ℕ) {number : ℕ} → ((i : ℕ) → get_or s i 0 < 256) → 8 ≤ length s
    → number ≡ checks s n spacecraft channel → by_number {A = Unit {0}} number tt ≡ by_number (header_refusal s n spacecraft channel) tt
judged s n spacecraft channel octets enough g = by_same {A = Unit {0}} tt (g ∙ sym (header_checks s octets enough n spacecraft channel))

pub returns-then-not-valid : goal.returns-then-not-valid
unfolding header_refusal
returns-then-not-valid c =
    let s = c.args.self.octets.now in
    let v : valid_header s ≡ false = sym c.valid.ensures ∙ c.if-not-valid.true in
    let e : 6 ≡ header_refusal s c.args.self.n c.args.spacecraft c.args.channel = search (tests, v) in
    by_same {A = Unit {0}} tt e

pub returns-then-from_be_bytes-spacecraft : goal.returns-then-from_be_bytes-spacecraft
returns-then-from_be_bytes-spacecraft c =
    let s = c.args.self.octets.now in
    let v : valid_header s ≡ true = sym c.valid.ensures ∙ c.if-not-valid.false in
    elim c.then-from_be_bytes-spacecraft.branch [
      | then-from_be_bytes-spacecraft-via-then-from_be_bytes-spacecraft w ↦
          (let n : o s 0 % 4 * 256 + o s 1 ≡ c.args.spacecraft → ⊥ = λ e. w.if-from_be_bytes-spacecraft.true (c.from_be_bytes.ensures ∙ e) in
          judged _ _ _ _ {number = 7} (λ i. search rules) (omega arith) (search (tests, v)))
      | then-from_be_bytes-spacecraft-via-else-from_be_bytes-spacecraft+then-octets-channel w ↦
          (let e : o s 0 % 4 * 256 + o s 1 ≡ c.args.spacecraft = sym c.from_be_bytes.ensures ∙ w.if-from_be_bytes-spacecraft.false in
          let d : o s 2 / 4 ≡ c.args.channel → ⊥ = w.if-octets-channel.true in
          judged _ _ _ _ {number = 7} (λ i. search rules) (omega arith) (search (tests, v)))
    ]

pub returns-then-not-is_command : goal.returns-then-not-is_command
returns-then-not-is_command c =
    let s = c.args.self.octets.now in
    let v : valid_header s ≡ true = sym c.valid.ensures ∙ c.if-not-valid.false in
    let e : o s 0 % 4 * 256 + o s 1 ≡ c.args.spacecraft = sym c.from_be_bytes.ensures ∙ c.if-from_be_bytes-spacecraft.false in
    judged _ _ _ _ {number = 9} (λ i. search rules) (omega arith) (search (tests, v, sym c.is_command.ensures ∙ c.if-not-is_command.true))

pub returns : goal.returns
returns c =
    let s = c.args.self.octets.now in
    let v : valid_header s ≡ true = sym c.valid.ensures ∙ c.if-not-valid.false in
    let e : o s 0 % 4 * 256 + o s 1 ≡ c.args.spacecraft = sym c.from_be_bytes.ensures ∙ c.if-from_be_bytes-spacecraft.false in
    elim c.else-first-eq1.branch [
      | else-first-eq1-via-then-first-eq1+else-not-is_command w ↦
          judged _ _ _ _ {number = 0} (λ i. search rules) (omega arith) (search (tests, v, w.if-first-eq1.true, sym w.is_command.ensures ∙ w.if-not-is_command.false))
      | else-first-eq1-via-else-first-eq1 w ↦
          judged _ _ _ _ {number = 0} (λ i. search rules) (omega arith) (search (tests, v, w.if-first-eq1.false))
    ]
