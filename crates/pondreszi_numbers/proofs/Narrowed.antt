-- One law of numbers given in fewer bits: where a definition answers the same for a number that does not fit and for the one that takes its
-- place, it answers the same for the number narrowed as for the number itself (`narrowed`); so does a definition that tells apart no numbers
-- beyond a limit (`beyond`), and one of an address (`address`).
use mathlib.Core.Path.{◌≡◌, refl, ap, ◌∙◌}
use mathlib.Core.Bool.{Bool, true, false}
use Prim.Native.Nat.{ℕ, suc, ◌≤◌, ◌<◌}
use native.Mathlib.Omega.{arith}
use borrow.Author.Tests.{leb-false}
use lib.Dec.{leb}
use Rattle.base.specs.Choice.{pick, must}
use Rattle.base.specs.Limits.{largest_spacecraft, largest_channel}
use Rattle.pondreszi_numbers.specs.Numbers.{largest_octet, largest_pair, narrow}

pub narrowed : {A : Type 0} (f : ℕ → A) (most other x : ℕ) → (most < x → f other ≡ f x) → f (narrow most other x) ≡ f x
narrowed f most other x h = go (leb x most) refl
  where
    go : (b : Bool) → leb x most ≡ b → f (pick b x other) ≡ f x
    go true e = refl
    go false e = h (leb-false x most e)

-- no two numbers beyond the limit are told apart
abbrev pub Alike : {A : Type 0} → ℕ → (ℕ → A) → Type 0
Alike limit f = (y z : ℕ) → limit < y → limit < z → f y ≡ f z

pub beyond : {A : Type 0} (f : ℕ → A) (limit most other x : ℕ) {r : ℕ} → Alike limit f → limit ≤ most → limit < other → r ≡ narrow most other x → f r ≡ f x
beyond f limit most other x alike h k e = ap f e ∙ narrowed f most other x (λ l. alike other x k (omega arith))

-- two choices after the same check
pub checked : {A : Type 0} (b : Bool) (refusal x y : A) → (b ≡ true → x ≡ y) → must b refusal x ≡ must b refusal y
checked true refusal x y h = h refl
checked false refusal x y h = refl

-- an address given, and the one handed on
abbrev pub Spacecraft : ℕ → ℕ → Type 0
Spacecraft own spacecraft = own ≡ narrow largest_pair (suc largest_spacecraft) spacecraft

abbrev pub Channel : ℕ → ℕ → Type 0
Channel ours channel = ours ≡ narrow largest_octet (suc largest_channel) channel

-- a definition of both, neither told apart beyond its limit
pub address : {A : Type 0} (f : ℕ → ℕ → A) (spacecraft channel : ℕ) {own ours : ℕ} → ((c : ℕ) → Alike largest_spacecraft (λ s. f s c))
    → ((s : ℕ) → Alike largest_channel (f s)) → Spacecraft own spacecraft → Channel ours channel → f own ours ≡ f spacecraft channel
address f spacecraft channel {own} {ours} a b p q =
    beyond (λ s. f s ours) largest_spacecraft largest_pair (suc largest_spacecraft) spacecraft (a ours) (omega arith) (omega arith) p
    ∙ beyond (f spacecraft) largest_channel largest_octet (suc largest_channel) channel (b spacecraft) (omega arith) (omega arith) q
