-- BD units: those accepted and those under way are among those handed down, in order.
use mathlib.Core.Path.{◌≡◌, refl, sym, ap, ◌∙◌, subst}
use mathlib.Core.List.{List, [], ◌∷◌, ◌++◌, append_assoc, append-nil}
use Prim.Native.Nat.{ℕ}
use native.Mathlib.Omega.{arith}
use Rattle.fop.specs.Units.{Frame, AD, BD, Unlock, SetVR, Refused}
use Rattle.session.specs.Session.{rest}
use Rattle.session.specs.Stronger.{Sub, none_left, skips, takes}
use Rattle.session.proofs.Core.{add_bds}

abbrev pub bds_of : List Frame → List (List ℕ)
bds_of [] = []
bds_of (AD u ∷ fs) = bds_of fs
bds_of (BD o ∷ fs) = o ∷ bds_of fs
bds_of (Unlock ∷ fs) = bds_of fs
bds_of (SetVR v ∷ fs) = bds_of fs
bds_of (Refused r ∷ fs) = bds_of fs

bds_append : (a b : List Frame) → bds_of (a ++ b) ≡ bds_of a ++ bds_of b
bds_append [] b = refl
bds_append (AD u ∷ a) b = bds_append a b
bds_append (BD o ∷ a) b = ap (◌∷◌ o) (bds_append a b)
bds_append (Unlock ∷ a) b = bds_append a b
bds_append (SetVR v ∷ a) b = bds_append a b
bds_append (Refused r ∷ a) b = bds_append a b

add_bds_lem : (b : List (List ℕ)) (fs : List Frame) → add_bds b fs ≡ b ++ bds_of fs
add_bds_lem b [] = sym (append-nil b)
add_bds_lem b (AD u ∷ fs) = add_bds_lem b fs
add_bds_lem b (BD o ∷ fs) = add_bds_lem (b ++ (o ∷ [])) fs ∙ append_assoc b (o ∷ []) (bds_of fs)
add_bds_lem b (Unlock ∷ fs) = add_bds_lem b fs
add_bds_lem b (SetVR v ∷ fs) = add_bds_lem b fs
add_bds_lem b (Refused r ∷ fs) = add_bds_lem b fs

pub sub_refl : {A : Type 0} (a : List A) → Sub a a
sub_refl [] = none_left
sub_refl (x ∷ a) = takes (sub_refl a)

sub_append : {A : Type 0} {a b : List A} (c : List A) → Sub a b → Sub (a ++ c) (b ++ c)
sub_append c none_left = sub_refl c
sub_append c (skips p) = skips (sub_append c p)
sub_append c (takes p) = takes (sub_append c p)

-- handing frames down
pub bd_handed : (a b : List (List ℕ)) (fr fs : List Frame) → Sub (a ++ bds_of fr) b → Sub (a ++ bds_of (fr ++ fs)) (add_bds b fs)
bd_handed a b fr fs p =
    rw (bds_append fr fs, ← append_assoc a (bds_of fr) (bds_of fs), add_bds_lem b fs) (sub_append (bds_of fs) p)

sub_without : {A : Type 0} {c b : List A} (a : List A) (x : A) (r : List A) → c ≡ a ++ (x ∷ r) → Sub c b → Sub (a ++ r) b
sub_without [] x r e none_left = let z : ◌≡◌ {A = ℕ} 0 1 = cc in absurd (omega arith)
sub_without (y ∷ a) x r e none_left = let z : ◌≡◌ {A = ℕ} 0 1 = cc in absurd (omega arith)
sub_without a x r e (skips p) = skips (sub_without a x r e p)
sub_without {b = y ∷ b} [] x r e (takes {a = c} p) = let q : c ≡ r = cc in skips (subst (λ l. Sub l b) q p)
sub_without {b = y ∷ b} (z ∷ a) x r e (takes {a = c} p) =
    let q : c ≡ a ++ (x ∷ r) = cc in
    let k : y ≡ z = cc in
    rw (← k) (takes (sub_without a x r q p))

-- a frame is lost, or arrives and is no BD frame
pub bd_lost : (a b : List (List ℕ)) (l : List Frame) → Sub (a ++ bds_of l) b → Sub (a ++ bds_of (rest l)) b
bd_lost a b [] p = p
bd_lost a b (AD u ∷ fs) p = p
bd_lost a b (BD o ∷ fs) p = sub_without a o (bds_of fs) refl p
bd_lost a b (Unlock ∷ fs) p = p
bd_lost a b (SetVR v ∷ fs) p = p
bd_lost a b (Refused r ∷ fs) p = p

-- a BD frame is accepted
pub bd_accepted : (a b : List (List ℕ)) (o : List ℕ) (fs : List Frame) → Sub (a ++ bds_of (BD o ∷ fs)) b → Sub ((a ++ (o ∷ [])) ++ bds_of fs) b
bd_accepted a b o fs p = rw (append_assoc a (o ∷ []) (bds_of fs)) p

-- what is accepted is a first part of that
sub_first : {A : Type 0} {c b : List A} (a r : List A) → c ≡ a ++ r → Sub c b → Sub a b
sub_first [] r e none_left = none_left
sub_first (y ∷ a) r e none_left = let z : ◌≡◌ {A = ℕ} 0 1 = cc in absurd (omega arith)
sub_first a r e (skips p) = skips (sub_first a r e p)
sub_first {b = y ∷ b} [] r e (takes {a = c} p) = skips (sub_first [] c refl p)
sub_first {b = y ∷ b} (z ∷ a) r e (takes {a = c} p) =
    let q : c ≡ a ++ r = cc in
    let k : y ≡ z = cc in
    rw (← k) (takes (sub_first a r q p))

pub bd_part : (a b : List (List ℕ)) (fr : List Frame) → Sub (a ++ bds_of fr) b → Sub a b
bd_part a b fr p = sub_first a (bds_of fr) refl p
