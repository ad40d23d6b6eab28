-- The last two octets are compared with the FECF of the others, which is the test of the syndrome.
use borrow.Author.Rules.{rules}
use mathlib.Core.Path.{◌≡◌, sym, ap, ◌∙◌}
use mathlib.Core.List.{List}
use Prim.Native.Nat.{ℕ, ◌+◌, ◌-◌, ◌*◌, ◌≤◌}
use native.Mathlib.Omega.{arith}
use lib.ListN.{length-take}
use Rattle.frame_header.proofs.Octets.{o}
use Rattle.frame.proofs.Named.{by_same}
use Rattle.frame.proofs.Content.{content_bad, content_good}
use Rattle.frame.proofs.Frame.judge_content.Goals as goal

pub slice_bounds-fecf-end : goal.slice_bounds-fecf-end
slice_bounds-fecf-end c = simp length-take (omega arith)

-- the last octet, by either of its indices
last_two : (s : List ℕ) (n : ℕ) {two : ℕ} → 8 ≤ n → two ≡ o s (n - 2) * 256 + o s (n - 2 + 1) → two ≡ o s (n - 2) * 256 + o s (n - 1)
last_two s n h e =
    let f : n - 2 + 1 ≡ n - 1 = omega arith in
    e ∙ ap (λ (j : ℕ). o s (n - 2) * 256 + o s j) f

pub returns-then-from_be_bytes-check : goal.returns-then-from_be_bytes-check
returns-then-from_be_bytes-check c =
    by_same {A = Unit {0}} tt (sym (content_bad _ _ _ _ (λ i. search rules) c.args.self.within.0 c.args.self.within.1
    (λ z. c.if-from_be_bytes-check.true (last_two _ _ c.args.self.within.0 c.from_be_bytes.ensures ∙ z ∙ sym c.fecf-check.ensures))))

pub returns : goal.returns
returns c =
    c.judge_header.ensures
    ∙ by_same {A = Unit {0}} tt (sym (content_good _ _ _ _ (λ i. search rules) c.args.self.within.0 c.args.self.within.1
    (sym (last_two _ _ c.args.self.within.0 c.from_be_bytes.ensures) ∙ c.if-from_be_bytes-check.false ∙ c.fecf-check.ensures)))
