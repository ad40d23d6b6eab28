-- Lists of places, weighed. A weight of places adds up along a list, and counting a place, counting all and finding a response without a unit are weights:
-- so one equation over all weights, between the places of the ledger and the requests of the list of events, says all that order 11 says of being one
-- of rejected, accepted and waiting. Besides: units at places of a list that grows, and what is left of accepted units where the first ones are settled.
use mathlib.Core.Path.{◌≡◌, refl, sym, ap, ap₂, ◌∙◌}
use mathlib.Core.Bool.{Bool, true, false, ◌||◌, false≢true}
use mathlib.Core.List.{List, [], ◌∷◌, ◌++◌, map, cons≢nil, head-eq_of_cons-eq, tail-eq_of_cons-eq}
use mathlib.Core.Option.{Option, none, some}
use Prim.Native.Nat.{ℕ, zero, suc, ◌+◌, ◌≤◌, ◌<◌}
use native.Mathlib.Omega.{arith}
use lib.ListN.{length}
use borrow.Author.Tests.{eq-eqb, ne_eqb}
use Rattle.base.specs.Choice.{pick}
use Rattle.ledger.specs.Ledger.{Turn, Accepted, Fate, Settled, confirmed, denied, accepted_now, places, settled_places, with_fate, is_place, member, is_settled, unsettled}
use Rattle.ledger.specs.Accounted.{is_request, is_offered, offered, times, all_places, unit_of, unit_at, fdu_at, fdus_at}

-- Weights.

abbrev pub weight : (Option ℕ → ℕ) → List (Option ℕ) → ℕ
weight g [] = 0
weight g (p ∷ ps) = g p + weight g ps

-- the place i counts, all count, what is no place counts
abbrev pub here : ℕ → Option ℕ → ℕ
here i p = pick (is_place i p) 1 0

abbrev pub each : Option ℕ → ℕ
each p = 1

abbrev pub nowhere : Option ℕ → ℕ
nowhere none = 1
nowhere (some i) = 0

pub weight_append : (g : Option ℕ → ℕ) (ps qs : List (Option ℕ)) → weight g (ps ++ qs) ≡ weight g ps + weight g qs
weight_append g [] qs = omega arith
weight_append g (p ∷ ps) qs = omega (arith, weight_append g ps qs)

pub times_weight : (i : ℕ) (ps : List (Option ℕ)) → times i ps ≡ weight (here i) ps
times_weight i [] = refl
times_weight i (p ∷ ps) = ap (λ (n : ℕ). here i p + n) (times_weight i ps)

pub length_weight : (ps : List (Option ℕ)) → length ps ≡ weight each ps
length_weight [] = refl
length_weight (p ∷ ps) = omega (arith, length_weight ps)

pub all_places_lem : (ps : List (Option ℕ)) → weight nowhere ps ≡ 0 → all_places ps ≡ true
all_places_lem [] e = refl
all_places_lem (none ∷ ps) e = absurd (omega arith)
all_places_lem (some i ∷ ps) e = all_places_lem ps (omega arith)

-- The requests of a list of events, weighed by their places; n is the place of the first event.

abbrev pub offers : (Option ℕ → ℕ) → ℕ → List Turn → ℕ
offers g n [] = 0
offers g n (t ∷ ts) = pick (is_request t.event) (g (some n)) 0 + offers g (suc n) ts

pub offers_append : (g : Option ℕ → ℕ) (n : ℕ) (ts : List Turn) (t : Turn)
    → offers g n (ts ++ (t ∷ [])) ≡ offers g n ts + pick (is_request t.event) (g (some (n + length ts))) 0
offers_append g n [] t =
    let z : n + 0 ≡ n = omega arith in
    rw z (omega arith)
offers_append g n (s ∷ ts) t =
    let z : n + suc (length ts) ≡ suc n + length ts = omega arith in
    rw z (omega (arith, offers_append g (suc n) ts t))

pub offers_each : (n : ℕ) (ts : List Turn) → offers each n ts ≡ offered ts
offers_each n [] = refl
offers_each n (t ∷ ts) = ap (λ (k : ℕ). pick (is_request t.event) 1 0 + k) (offers_each (suc n) ts)

pub offers_nowhere : (n : ℕ) (ts : List Turn) → offers nowhere n ts ≡ 0
offers_nowhere n [] = refl
offers_nowhere n (t ∷ ts) = go (is_request t.event) (offers_nowhere (suc n) ts)
  where
    go : (b : Bool) → offers nowhere (suc n) ts ≡ 0 → pick b 0 0 + offers nowhere (suc n) ts ≡ 0
    go true e = omega arith
    go false e = omega arith

offers_past : (i n : ℕ) (ts : List Turn) → i < n → offers (here i) n ts ≡ 0
offers_past i n [] l = refl
offers_past i n (t ∷ ts) l = rw (ne_eqb i n (omega arith)) (go (is_request t.event) (offers_past i (suc n) ts (omega arith)))
  where
    go : (b : Bool) → offers (here i) (suc n) ts ≡ 0 → pick b 0 0 + offers (here i) (suc n) ts ≡ 0
    go true e = omega arith
    go false e = omega arith

pub offers_here : (n j : ℕ) (ts : List Turn) → offers (here (n + j)) n ts ≡ pick (is_offered ts j) 1 0
offers_here n j [] = refl
offers_here n zero (t ∷ ts) =
    let z : n + 0 ≡ n = omega arith in
    rw (z, eq-eqb n n refl, offers_past (n + 0) (suc n) ts (omega arith)) (omega arith)
offers_here n (suc j) (t ∷ ts) =
    let z : n + suc j ≡ suc n + j = omega arith in
    let e = ap (λ (m : ℕ). offers (here m) (suc n) ts) z ∙ offers_here (suc n) j ts in
    rw (z, ne_eqb (suc n + j) n (omega arith), e) (go (is_request t.event))
  where
    go : (b : Bool) → pick b 0 0 + pick (is_offered ts j) 1 0 ≡ pick (is_offered ts j) 1 0
    go true = omega arith
    go false = omega arith

-- What the ledger's lists hold.

pub places_append : (xs ys : List Accepted) → places (xs ++ ys) ≡ places xs ++ places ys
places_append [] ys = refl
places_append (a ∷ xs) ys = ap (◌∷◌ a.place) (places_append xs ys)

pub settled_append : (ss rs : List Settled) → settled_places (ss ++ rs) ≡ settled_places ss ++ settled_places rs
settled_append [] rs = refl
settled_append (s ∷ ss) rs = ap (◌∷◌ s.place) (settled_append ss rs)

pub length_places : (xs : List Accepted) → length (places xs) ≡ length xs
length_places [] = refl
length_places (a ∷ xs) = ap suc (length_places xs)

pub places_now : (n : Option ℕ) (ps : List (Option ℕ)) → places (accepted_now n ps) ≡ ps
places_now n [] = refl
places_now n (p ∷ ps) = ap (◌∷◌ p) (places_now n ps)

-- the confirmed and the denied are the settled
pub fates_weight : (g : Option ℕ → ℕ) (ss : List Settled)
    → weight g (with_fate confirmed ss) + weight g (with_fate denied ss) ≡ weight g (settled_places ss)
fates_weight g [] = refl
fates_weight g (s ∷ ss) = go s.fate (fates_weight g ss)
  where
    go : (f : Fate) → weight g (with_fate confirmed ss) + weight g (with_fate denied ss) ≡ weight g (settled_places ss)
        → weight g (with_fate confirmed (record { fate = f; place = s.place } ∷ ss)) + weight g (with_fate denied (record { fate = f; place = s.place } ∷ ss))
        ≡ g s.place + weight g (settled_places ss)
    go confirmed e = omega arith
    go denied e = omega arith

-- Units at places of a list that grows: a place at which a request stands keeps its unit.

pub unit_stays : (ts us : List Turn) (i : ℕ) → is_offered ts i ≡ true → unit_at (ts ++ us) i ≡ unit_at ts i
unit_stays [] us i o = absurd (false≢true o)
unit_stays (t ∷ ts) us zero o = refl
unit_stays (t ∷ ts) us (suc i) o = unit_stays ts us i o

pub unit_last : (ts : List Turn) (t : Turn) → unit_at (ts ++ (t ∷ [])) (length ts) ≡ unit_of t.event
unit_last [] t = refl
unit_last (s ∷ ts) t = unit_last ts t

-- requests stand at the places of a list
abbrev pub AllOffered : List Turn → List (Option ℕ) → Type 0
AllOffered ts ps = (i : ℕ) → 1 ≤ weight (here i) ps → is_offered ts i ≡ true

offered_first : (ts : List Turn) (i : ℕ) (ps : List (Option ℕ)) → AllOffered ts (some i ∷ ps) → is_offered ts i ≡ true
offered_first ts i ps h = h i (rw (eq-eqb i i refl) (omega arith))

offered_others : (ts : List Turn) (p : Option ℕ) (ps : List (Option ℕ)) → AllOffered ts (p ∷ ps) → AllOffered ts ps
offered_others ts p ps h i l = h i (omega arith)

pub units_stay : (ts us : List Turn) (is : List ℕ) → AllOffered ts (map some is) → map (unit_at (ts ++ us)) is ≡ map (unit_at ts) is
units_stay ts us [] h = refl
units_stay ts us (i ∷ is) h =
    ap₂ ◌∷◌ (unit_stays ts us i (offered_first ts i (map some is) h)) (units_stay ts us is (offered_others ts (some i) (map some is) h))

-- where no unit waits, and where one does
pub none_waits : (ts : List Turn) (is : List ℕ) → map (unit_at ts) is ≡ [] → is ≡ []
none_waits ts [] e = refl
none_waits ts (i ∷ is) e = absurd (cons≢nil e)

pub one_waits : (ts : List Turn) (is : List ℕ) (o : List ℕ) → map (unit_at ts) is ≡ o ∷ [] → (i : ℕ) × (is ≡ i ∷ []) × (unit_at ts i ≡ o)
one_waits ts [] o e = absurd (cons≢nil (sym e))
one_waits ts (i ∷ is) o e = (i, ap (◌∷◌ i) (none_waits ts is (tail-eq_of_cons-eq e)), head-eq_of_cons-eq e)

pub fdus_stay : (ts us : List Turn) (xs : List Accepted) → AllOffered ts (places xs) → fdus_at (ts ++ us) xs ≡ fdus_at ts xs
fdus_stay ts us [] h = refl
fdus_stay ts us (a ∷ xs) h = ap₂ ◌∷◌ (go a.place a.number h) (fdus_stay ts us xs (offered_others ts a.place (places xs) h))
  where
    go : (p n : Option ℕ) → AllOffered ts (p ∷ places xs) → fdu_at (ts ++ us) p n ≡ fdu_at ts p n
    go none n k = refl
    go (some i) none k = refl
    go (some i) (some n) k = ap (λ (o : List ℕ). some (record { ns = n; octets = o })) (unit_stays ts us i (offered_first ts i (places xs) k))

pub fdus_append : (ts : List Turn) (xs ys : List Accepted) → fdus_at ts (xs ++ ys) ≡ fdus_at ts xs ++ fdus_at ts ys
fdus_append ts [] ys = refl
fdus_append ts (a ∷ xs) ys = ap (◌∷◌ (fdu_at ts a.place a.number)) (fdus_append ts xs ys)

-- What is left of accepted units: none of those whose places are settled, all those whose places are not.

member_there : (i : ℕ) (ps : List (Option ℕ)) → 1 ≤ weight (here i) ps → member i ps ≡ true
member_there i [] l = absurd (omega arith)
member_there i (p ∷ ps) l = go (is_place i p) l (member_there i ps)
  where
    go : (b : Bool) → 1 ≤ pick b 1 0 + weight (here i) ps → (1 ≤ weight (here i) ps → member i ps ≡ true) → (b || member i ps) ≡ true
    go true l f = refl
    go false l f = f (omega arith)

member_not : (i : ℕ) (ps : List (Option ℕ)) → weight (here i) ps ≡ 0 → member i ps ≡ false
member_not i [] z = refl
member_not i (p ∷ ps) z = go (is_place i p) z (member_not i ps)
  where
    go : (b : Bool) → pick b 1 0 + weight (here i) ps ≡ 0 → (weight (here i) ps ≡ 0 → member i ps ≡ false) → (b || member i ps) ≡ false
    go true z f = absurd (omega arith)
    go false z f = f (omega arith)

pub left_out : (ps : List (Option ℕ)) (xs ys : List Accepted) → weight nowhere (places xs) ≡ 0
    → ((i : ℕ) → 1 ≤ weight (here i) (places xs) → 1 ≤ weight (here i) ps) → unsettled ps (xs ++ ys) ≡ unsettled ps ys
left_out ps [] ys k h = refl
left_out ps (a ∷ xs) ys k h = go a.place k h (left_out ps xs ys)
  where
    go : (p : Option ℕ) → weight nowhere (p ∷ places xs) ≡ 0 → ((i : ℕ) → 1 ≤ weight (here i) (p ∷ places xs) → 1 ≤ weight (here i) ps)
        → (weight nowhere (places xs) ≡ 0 → ((i : ℕ) → 1 ≤ weight (here i) (places xs) → 1 ≤ weight (here i) ps) → unsettled ps (xs ++ ys) ≡ unsettled ps ys)
        → pick (is_settled p ps) (unsettled ps (xs ++ ys)) (a ∷ unsettled ps (xs ++ ys)) ≡ unsettled ps ys
    go none k h f = absurd (omega arith)
    go (some i) k h f =
        rw (member_there i ps (h i (rw (eq-eqb i i refl) (omega arith)))) (f (omega arith) (λ j l. h j (omega arith)))

pub left_all : (ps : List (Option ℕ)) (xs : List Accepted) → ((i : ℕ) → 1 ≤ weight (here i) (places xs) → weight (here i) ps ≡ 0) → unsettled ps xs ≡ xs
left_all ps [] h = refl
left_all ps (a ∷ xs) h = go a.place h (left_all ps xs)
  where
    go : (p : Option ℕ) → ((i : ℕ) → 1 ≤ weight (here i) (p ∷ places xs) → weight (here i) ps ≡ 0)
        → (((i : ℕ) → 1 ≤ weight (here i) (places xs) → weight (here i) ps ≡ 0) → unsettled ps xs ≡ xs)
        → pick (is_settled p ps) (unsettled ps xs) (a ∷ unsettled ps xs) ≡ a ∷ xs
    go none h f = ap (◌∷◌ a) (f (λ j l. h j (omega arith)))
    go (some i) h f = rw (member_not i ps (h i (rw (eq-eqb i i refl) (omega arith)))) (ap (◌∷◌ a) (f (λ j l. h j (omega arith))))
