-- The sender's invariant, over values, and what each kind of action does to it.
use mathlib.Core.Path.{◌≡◌, refl, sym, ap, ◌∙◌}
use mathlib.Core.Bool.{true}
use mathlib.Core.List.{List, [], ◌∷◌, ◌++◌, append_assoc}
use mathlib.Core.Option.{Option, none, some}
use Prim.Native.Nat.{ℕ, suc, ◌+◌, ◌-◌, ◌≤◌, ◌<◌}
use native.Mathlib.Omega.{arith}
use lib.ListN.{length, take, drop, get_or, length-append, length-drop, length-take, take-append-drop}
use lib.Seq.{take-append-le, drop-append-le, get_or-append-add, get_or-drop, get_or-append_seam}
use borrow.Author.Tests.{eq-eqb, ne_eqb}
use Rattle.base.specs.Modulo.{advanced, offset}
use Rattle.fop.specs.Units.{Fdu, Frame, AD, BD, legal}
use Rattle.fop.specs.Variables.{Preset}
use Rattle.session.specs.Session.{no_unit, places}
use Rattle.session.proofs.Core.{add_all, first_of}
use Rattle.session.proofs.Lists.{Numbered, numbered_add, iota, places_are}
use Rattle.session.proofs.Chan.{Fly, fly_more, fly_add, fly_bd}

-- what the settings give: the sender's, and PW = NW = W/2, half the receiver's window, which bounds the frames under way
pub record Bounds : Type 0 where
  pub preset : Preset
  pub half : ℕ

-- what holds whatever the sender's state: C confirmed before the event, conf confirmed by it
pub record Base (n : ℕ) (P : Bounds) (C : ℕ) (acc sent : List Fdu) (fr : List Frame) (conf : List Fdu) : Type 0 where
  pub num : Numbered n sent
  pub order : acc ≡ take (length acc) sent
  pub behind : length acc ≤ length sent
  pub truly : C + length conf ≤ length acc
  pub room : length sent ≤ C + length conf + P.preset.k
  pub fits : P.preset.k ≤ P.half
  pub small : P.half ≤ 127
  pub fly : Fly P.half sent (length acc) (length acc) fr

-- the sender is in service: its queue is what is sent and not confirmed
pub record Live (n C : ℕ) (gone : List (Option ℕ)) (sent conf den q : List Fdu) (vs nn : ℕ) : Type 0 where
  pub cut : conf ++ q ≡ drop C sent
  pub undenied : den ≡ []
  pub fresh : gone ≡ []
  pub is_vs : vs ≡ advanced n (length sent)
  pub is_nn : nn ≡ advanced n (C + length conf)

-- the sender is out of service: what is sent and not confirmed is denied
pub record Dead (C : ℕ) (gone : List (Option ℕ)) (sent conf den q : List Fdu) : Type 0 where
  pub after : List Fdu
  pub cut : conf ++ after ≡ drop C sent
  pub empty : q ≡ []
  pub denied : gone ++ places sent (first_of den) (length den) ≡ iota (C + length conf) (length after)

-- in service, out of service, or not covered
pub data Mode : Type 0 where
  live dead bad : Mode

-- what the event brings: a control word, a unit, nothing
pub data Given : Type 0 where
  word unit nothing : Given

-- the word in hand reports a, which is at most what is accepted; the unit in hand is legal; a is at least what is confirmed
abbrev pub Reports : Given → ℕ → ℕ → ℕ → ℕ → List ℕ → Type 0
Reports word n a A v o = (v ≡ advanced n a) × (a ≤ A)
Reports unit n a A v o = legal o ≡ true
Reports nothing n a A v o = Unit {0}

-- the unit waiting is legal
abbrev pub WaitOk : Option (List ℕ) → Type 0
WaitOk none = Unit {0}
WaitOk (some o) = legal o ≡ true

module _ (n : ℕ) (P : Bounds) (C : ℕ) (gone : List (Option ℕ)) (acc : List Fdu) (given : Given) (a : ℕ) where
  -- the sender's invariant in a mode, of the values of its fields and of the work on an event
  abbrev pub WI : Mode → List Fdu → List Frame → List Fdu → List Fdu → List Fdu → ℕ → ℕ → Preset → ℕ → Option (List ℕ) → List ℕ → Type 0
  WI live sent fr conf den q vs nn p v wt o =
      Base n P C acc sent fr conf × Live n C gone sent conf den q vs nn × (C + length conf ≤ a) × Reports given n a (length acc) v o × (p ≡ P.preset) × WaitOk wt
  WI dead sent fr conf den q vs nn p v wt o =
      Base n P C acc sent fr conf × Dead C gone sent conf den q × (C + length conf ≤ a) × Reports given n a (length acc) v o × (p ≡ P.preset) × WaitOk wt
  WI bad sent fr conf den q vs nn p v wt o = Unit {0}

-- a unit sent again does not count anew
pub same_sent : (n : ℕ) (s : List Fdu) (u : Fdu) (j : ℕ) → Numbered n s → j < length s → length s ≤ j + 127 → u ≡ get_or s j no_unit
    → add_all n s (AD u ∷ []) ≡ s
same_sent n s u j h b r e =
    rw (ne_eqb u.ns (advanced n (length s)) (λ q. omega (arith, h.at j b, ap (λ (x : Fdu). x.ns) e)))

-- a unit with the next number does
pub new_sent : (n : ℕ) (s : List Fdu) (u : Fdu) → u.ns ≡ advanced n (length s) → add_all n s (AD u ∷ []) ≡ s ++ (u ∷ [])
new_sent n s u e = rw (eq-eqb u.ns (advanced n (length s)) e)

-- the same with another channel
pub refly : {n : ℕ} {P : Bounds} {C : ℕ} {acc sent : List Fdu} {fr fr' : List Frame} {conf : List Fdu} → Base n P C acc sent fr conf
    → Fly P.half sent (length acc) (length acc) fr' → Base n P C acc sent fr' conf
refly b f =
    record { num = b.num; order = b.order; behind = b.behind; truly = b.truly; room = b.room; fits = b.fits; small = b.small; fly = f }

-- the length of the queue is what is not confirmed
pub queue_length : (C : ℕ) (sent conf q : List Fdu) → conf ++ q ≡ drop C sent → length conf + length q ≡ length sent - C
queue_length C sent conf q e = sym (length-append conf q) ∙ ap length e ∙ length-drop C sent

-- a unit of the queue by its place in sent
pub queue_at : (C : ℕ) (sent conf q : List Fdu) → conf ++ q ≡ drop C sent → (i : ℕ)
    → get_or q i no_unit ≡ get_or sent (C + (length conf + i)) no_unit
queue_at C sent conf q e i =
    sym (get_or-append-add conf q i no_unit) ∙ ap (λ (l : List Fdu). get_or l (length conf + i) no_unit) e
    ∙ get_or-drop C sent (length conf + i) no_unit

-- the places of a run, of the units q that follow what is confirmed
pub run_places : (n C : ℕ) (sent conf q more : List Fdu) → Numbered n sent → conf ++ (q ++ more) ≡ drop C sent → length sent ≤ C + length conf + 256
    → places sent (first_of q) (length q) ≡ iota (C + length conf) (length q)
run_places n C sent conf [] more b e l = refl
run_places n C sent conf (u ∷ us) more b e l =
    let ln = queue_length C sent conf ((u ∷ us) ++ more) e in
    let la : length ((u ∷ us) ++ more) ≡ suc (length us) + length more = length-append (u ∷ us) more in
    let eu : u ≡ get_or sent (C + (length conf + 0)) no_unit = queue_at C sent conf ((u ∷ us) ++ more) e 0 in
    let ej : C + (length conf + 0) ≡ C + length conf = omega arith in
    places_are n sent b u.ns (C + length conf) (suc (length us))
    (ap (λ (x : Fdu). x.ns) (eu ∙ ap (λ (i : ℕ). get_or sent i no_unit) ej) ∙ b.at (C + length conf) (omega arith)) (omega arith) (omega arith)

module _ (n : ℕ) (P : Bounds) (C : ℕ) (gone : List (Option ℕ)) (acc : List Fdu) (given : Given) (a : ℕ) where
  -- a unit of the queue is sent again
  pub resent : (sent : List Fdu) (fr : List Frame) (conf den q : List Fdu) (vs nn : ℕ) (p : Preset) (v : ℕ) (wt : Option (List ℕ)) (o : List ℕ)
      → WI n P C gone acc given a live sent fr conf den q vs nn p v wt o → (u : Fdu) (i : ℕ) → i < length q → u ≡ get_or q i no_unit
      → WI n P C gone acc given a live (add_all n sent (AD u ∷ [])) (fr ++ (AD u ∷ [])) conf den q vs nn p v wt o
  resent sent fr conf den q vs nn p v wt o h u i b e =
      let ln : length conf + length q ≡ length sent - C = queue_length C sent conf q h.1.cut in
      let j : ℕ = C + (length conf + i) in
      let eu : u ≡ get_or sent j no_unit = e ∙ queue_at C sent conf q h.1.cut i in
      let bj : j < length sent = omega arith in
      rw (same_sent n sent u j h.0.num bj (omega arith) eu) (
        refly h.0 (fly_add P.half sent (length acc) (length acc) fr u j eu bj h.0.behind (omega arith) (omega arith) h.0.fly),
        h.1,
        h.2,
        h.3,
        h.4,
        h.5,
      )

  -- a new unit is sent
  pub sent_new : (sent : List Fdu) (fr : List Frame) (conf den q : List Fdu) (vs nn : ℕ) (p : Preset) (v : ℕ) (wt : Option (List ℕ)) (o : List ℕ)
      → WI n P C gone acc given a live sent fr conf den q vs nn p v wt o → offset vs nn < p.k → (u : Fdu) → u.ns ≡ vs → legal u.octets ≡ true
      → WI n P C gone acc given a live (add_all n sent (AD u ∷ [])) (fr ++ (AD u ∷ [])) conf den (q ++ (u ∷ [])) (advanced vs 1) nn p v none o
  sent_new sent fr conf den q vs nn p v wt o h r u e g =
      let ln : length (sent ++ (u ∷ [])) ≡ length sent + 1 = length-append sent (u ∷ []) in
      let le : C ≤ length sent = omega arith in
      let pk : p.k ≡ P.preset.k = ap (λ (x : Preset). x.k) h.4 in
      rw (new_sent n sent u (e ∙ h.1.is_vs)) (
        record {
          num = numbered_add n sent u h.0.num (e ∙ h.1.is_vs) g;
          order = rw (take-append-le (length acc) sent (u ∷ []) h.0.behind) h.0.order;
          behind = omega arith;
          truly = h.0.truly;
          room = omega arith;
          fits = h.0.fits;
          small = h.0.small;
          fly =
              fly_add P.half (sent ++ (u ∷ [])) (length acc) (length acc) fr u (length sent) (sym (get_or-append_seam sent u [] no_unit)) (omega arith)
              (omega arith) (omega arith) (omega arith) (fly_more P.half sent (u ∷ []) (length acc) (length acc) fr h.0.fly);
        },
        record {
          cut = rw (← append_assoc conf q (u ∷ []), h.1.cut, drop-append-le C sent (u ∷ []) le);
          undenied = h.1.undenied;
          fresh = h.1.fresh;
          is_vs = omega arith;
          is_nn = h.1.is_nn;
        },
        h.2,
        h.3,
        h.4,
        tt,
      )

  -- what the word reports is confirmed
  pub confirmed : (sent : List Fdu) (fr : List Frame) (conf den q : List Fdu) (vs nn : ℕ) (p : Preset) (v : ℕ) (wt : Option (List ℕ)) (o : List ℕ)
      → WI n P C gone acc word a live sent fr conf den q vs nn p v wt o
      → WI n P C gone acc word a live sent fr (conf ++ take (offset v nn) q) den (drop (offset v nn) q) vs v p v wt o
  confirmed sent fr conf den q vs nn p v wt o h =
      let ln : length conf + length q ≡ length sent - C = queue_length C sent conf q h.1.cut in
      let dl : C + length conf + offset v nn ≡ a = omega arith in
      let lc : length (conf ++ take (offset v nn) q) ≡ length conf + offset v nn =
      length-append conf (take (offset v nn) q) ∙ rw (length-take (offset v nn) q) (omega arith) in (
        record {
          num = h.0.num;
          order = h.0.order;
          behind = h.0.behind;
          truly = omega arith;
          room = omega arith;
          fits = h.0.fits;
          small = h.0.small;
          fly = h.0.fly;
        },
        record {
          cut = rw (append_assoc conf (take (offset v nn) q) (drop (offset v nn) q), take-append-drop (offset v nn) q) h.1.cut;
          undenied = h.1.undenied;
          fresh = h.1.fresh;
          is_vs = h.1.is_vs;
          is_nn = omega arith;
        },
        omega arith,
        h.3,
        h.4,
        h.5,
      )

-- a BD frame is sent
pub sent_bd_lem : (n : ℕ) (P : Bounds) (C : ℕ) (gone : List (Option ℕ)) (acc : List Fdu) (a : ℕ) (m : Mode) (sent : List Fdu) (fr : List Frame)
    (conf den q : List Fdu) (vs nn : ℕ) (p : Preset) (v : ℕ) (wt : Option (List ℕ)) (o : List ℕ)
    → WI n P C gone acc unit a m sent fr conf den q vs nn p v wt o
    → WI n P C gone acc unit a m sent (fr ++ (BD o ∷ [])) conf den q vs nn p v wt o
sent_bd_lem n P C gone acc a live sent fr conf den q vs nn p v wt o h =
    (refly h.0 (fly_bd P.half sent (length acc) (length acc) fr o h.3 h.0.fly), h.1, h.2, h.3, h.4, h.5)
sent_bd_lem n P C gone acc a dead sent fr conf den q vs nn p v wt o h =
    (refly h.0 (fly_bd P.half sent (length acc) (length acc) fr o h.3 h.0.fly), h.1, h.2, h.3, h.4, h.5)
sent_bd_lem n P C gone acc a bad sent fr conf den q vs nn p v wt o h = tt
