-- Facts of lists that the session's invariant rests on.
use mathlib.Core.Logic.{◌≢◌}
use mathlib.Core.Path.{◌≡◌, refl, ap}
use mathlib.Core.Bool.{Bool, true, false, ◌||◌}
use mathlib.Core.List.{List, [], ◌∷◌, ◌++◌, map}
use mathlib.Core.Option.{Option, some}
use Prim.Native.Nat.{ℕ, zero, suc, ◌+◌, ◌-◌, ◌≤◌, ◌<◌}
use native.Mathlib.Nat.{not-suc-le-zero, add-zero, zero-add, add-suc, suc-add}
use native.Mathlib.Omega.{arith}
use lib.Dec.{ltb, eqb}
use lib.ListN.{length, take, drop, get_or, length-append, get_or-append}
use lib.Seq.{drop-cons, get_or-append_seam}
use borrow.Author.Tests.{ne_eqb, eqb-true, eqb-false, ltb-true, ltb-false}
use Rattle.base.specs.Choice.{pick}
use Rattle.base.specs.Modulo.{advanced}
use Rattle.fop.specs.Units.{Fdu, Frame, legal}
use Rattle.session.specs.Session.{no_unit, add_sent, last_place, places}
use Rattle.session.specs.Claims.{units_at, member, remaining}
use Rattle.session.specs.Stronger.{units_of, somes}
use Rattle.session.proofs.Core.{add_all}

-- each unit's number is its place's, and each is legal
pub record Numbered (n : ℕ) (s : List Fdu) : Type 0 where
  pub at : (i : ℕ) → i < length s → (get_or s i no_unit).ns ≡ advanced n i
  pub ok : (i : ℕ) → i < length s → legal (get_or s i no_unit).octets ≡ true

pub numbered_nil : (n : ℕ) → Numbered n []
numbered_nil n = record { at = λ i h. absurd (not-suc-le-zero h); ok = λ i h. absurd (not-suc-le-zero h) }

-- what holds at each place of s, and of u, holds at each place of s ++ (u ∷ [])
at_end : (P : ℕ → Fdu → Type 0) (s : List Fdu) (u : Fdu) → ((i : ℕ) → i < length s → P i (get_or s i no_unit)) → P (length s) u
    → (i : ℕ) → i < length (s ++ (u ∷ [])) → P i (get_or (s ++ (u ∷ [])) i no_unit)
at_end P s u h e i b = go (eqb i (length s)) refl
  where
    go : (t : Bool) → eqb i (length s) ≡ t → P i (get_or (s ++ (u ∷ [])) i no_unit)
    go true t = rw (eqb-true i (length s) t, get_or-append_seam s u [] no_unit) e
    go false t =
        let l : i < length s = omega (arith, eqb-false i (length s) t, length-append s (u ∷ []), b) in
        rw (get_or-append s (u ∷ []) no_unit i l) (h i l)

pub numbered_add : (n : ℕ) (s : List Fdu) (u : Fdu) → Numbered n s → u.ns ≡ advanced n (length s) → legal u.octets ≡ true → Numbered n (s ++ (u ∷ []))
numbered_add n s u h e g =
    record { at = at_end (λ i x. x.ns ≡ advanced n i) s u h.at e; ok = at_end (λ i x. legal x.octets ≡ true) s u h.ok g }

pub add_all_append : (n : ℕ) (s : List Fdu) (a b : List Frame) → add_all n s (a ++ b) ≡ add_all n (add_all n s a) b
add_all_append n s [] b = refl
add_all_append n s (f ∷ a) b = add_all_append n (add_sent n s f) a b

-- the numbers from j on, c of them; and as places
abbrev pub nums : ℕ → ℕ → List ℕ
nums j zero = []
nums j (suc c) = j ∷ nums (suc j) c

abbrev pub iota : ℕ → ℕ → List (Option ℕ)
iota j zero = []
iota j (suc c) = some j ∷ iota (suc j) c

pub somes_nums : (j c : ℕ) → somes (nums j c) ≡ iota j c
somes_nums j zero = refl
somes_nums j (suc c) = ap (◌∷◌ (some j)) (somes_nums (suc j) c)

pub length_nums : (j c : ℕ) → length (nums j c) ≡ c
length_nums j zero = refl
length_nums j (suc c) = ap suc (length_nums (suc j) c)

pub iota_append : (j a b : ℕ) → iota j a ++ iota (j + a) b ≡ iota j (a + b)
iota_append j zero b = rw (add-zero j, zero-add b)
iota_append j (suc a) b = rw (suc-add a b, add-suc j a, ← suc-add j a) (ap (◌∷◌ (some j)) (iota_append (suc j) a b))

pub length_iota : (j c : ℕ) → length (iota j c) ≡ c
length_iota j zero = refl
length_iota j (suc c) = ap suc (length_iota (suc j) c)

pub last_place_is : (n : ℕ) (s : List Fdu) → Numbered n s → (i j : ℕ) → j < i → i ≤ length s → i ≤ j + 256
    → last_place s (advanced n j) i ≡ some j
last_place_is n s h zero j a b c = absurd (omega arith)
last_place_is n s h (suc i) j a b c =
    go (λ l. last_place_is n s h i j l (omega arith) (omega arith)) (eqb (get_or s i no_unit).ns (advanced n j)) refl
  where
    e : (get_or s i no_unit).ns ≡ advanced n i
    e = h.at i b

    go : (j < i → last_place s (advanced n j) i ≡ some j) → (t : Bool) → eqb (get_or s i no_unit).ns (advanced n j) ≡ t
        → pick t (some i) (last_place s (advanced n j) i) ≡ some j
    go f true t = let q : i ≡ j = omega (arith, eqb-true (get_or s i no_unit).ns (advanced n j) t, e) in ap some q
    go f false t =
        let d : i ≢ j = λ q. eqb-false (get_or s i no_unit).ns (advanced n j) t (rw (← q) e) in
        f (omega arith)

pub places_are : (n : ℕ) (s : List Fdu) → Numbered n s → (x j c : ℕ) → x ≡ advanced n j → j + c ≤ length s → length s ≤ j + 256
    → places s x c ≡ iota j c
places_are n s h x j zero e a b = refl
places_are n s h x j (suc c) e a b =
    rw (e, last_place_is n s h (length s) j (omega arith) (omega arith) b)
    (ap (◌∷◌ (some j)) (places_are n s h (advanced (advanced n j) 1) (suc j) c (omega arith) (omega arith) (omega arith)))

pub units_iota : (s : List Fdu) (j c : ℕ) → j + c ≤ length s → units_at s (iota j c) ≡ map some (take c (drop j s))
units_iota s j zero h = refl
units_iota s j (suc c) h =
    rw (drop-cons s j no_unit (omega arith)) (ap (◌∷◌ (some (get_or s j no_unit))) (units_iota s (suc j) c (omega arith)))

pub units_of_nums : (s : List Fdu) (j c : ℕ) → j + c ≤ length s → units_of s (nums j c) ≡ take c (drop j s)
units_of_nums s j zero h = refl
units_of_nums s j (suc c) h = rw (drop-cons s j no_unit (omega arith)) (ap (◌∷◌ (get_or s j no_unit)) (units_of_nums s (suc j) c (omega arith)))

pub member_in : (i j c : ℕ) → j ≤ i → i < j + c → member i (iota j c) ≡ true
member_in i j zero a b = absurd (omega arith)
member_in i j (suc c) a b = go (λ l. member_in i (suc j) c l (omega arith)) (eqb i j) refl
  where
    go : (suc j ≤ i → member i (iota (suc j) c) ≡ true) → (t : Bool) → eqb i j ≡ t → (t || member i (iota (suc j) c)) ≡ true
    go f true t = refl
    go f false t = let d : i ≢ j = eqb-false i j t in f (omega arith)

pub member_out : (i j c : ℕ) → j + c ≤ i → member i (iota j c) ≡ false
member_out i j zero a = refl
member_out i j (suc c) a = rw (ne_eqb i j (omega arith)) (member_out i (suc j) c (omega arith))

-- with the first C confirmed and d more denied, what is left of c places from j on, up to C + d
pub left_iota : (C j c : ℕ) → remaining (iota 0 C) [] j c ≡ nums (j + (C - j)) (c - (C - j))
left_iota C j zero = let z : 0 - (C - j) ≡ 0 = omega arith in rw z
left_iota C j (suc c) = go (left_iota C (suc j) c) (ltb j C) refl
  where
    go : remaining (iota 0 C) [] (suc j) c ≡ nums (suc j + (C - suc j)) (c - (C - suc j)) → (t : Bool) → ltb j C ≡ t
        → remaining (iota 0 C) [] j (suc c) ≡ nums (j + (C - j)) (suc c - (C - j))
    go f true t =
        let l : j < C = ltb-true j C t in
        let a : suc j + (C - suc j) ≡ j + (C - j) = omega arith in
        let b : c - (C - suc j) ≡ suc c - (C - j) = omega arith in
        rw (member_in j 0 C (omega arith) (omega arith), ← a, ← b) f
    go f false t =
        let l : C ≤ j = ltb-false j C t in
        let a : j + (C - j) ≡ j = omega arith in
        let b : suc c - (C - j) ≡ suc c = omega arith in
        let a' : suc j + (C - suc j) ≡ suc j = omega arith in
        let b' : c - (C - suc j) ≡ c = omega arith in
        rw (member_out j 0 C (omega arith), a, b) (ap (◌∷◌ j) (rw (a', b') at f))

pub left_none : (C d j c : ℕ) → j + c ≤ C + d → remaining (iota 0 C) (iota C d) j c ≡ []
left_none C d j zero h = refl
left_none C d j (suc c) h = go (left_none C d (suc j) c (omega arith)) (ltb j C) refl
  where
    or_true : (b : Bool) → (b || true) ≡ true
    or_true true = refl
    or_true false = refl

    go : remaining (iota 0 C) (iota C d) (suc j) c ≡ [] → (t : Bool) → ltb j C ≡ t → remaining (iota 0 C) (iota C d) j (suc c) ≡ []
    go f true t = rw (member_in j 0 C (omega arith) (omega (arith, ltb-true j C t))) f
    go f false t =
        let l : C ≤ j = ltb-false j C t in
        rw (member_in j C d l (omega arith), or_true (member j (iota 0 C))) f
