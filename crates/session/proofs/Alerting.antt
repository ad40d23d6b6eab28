-- At Timeout_Type 0 a session never suspends, so no lower-layer reject comes while suspended, whatever its events: demand 3 as it was before document
-- 02's order 9, and what holds beyond it, are this case of demand 3 now (`demand3_alerting`, `beyond_alerting`).
use mathlib.Core.Logic.{inl, inr}
use mathlib.Core.Path.{◌≡◌, refl, sym, ap, ◌∙◌}
use mathlib.Core.Bool.{Bool, true, ◌&&◌}
use mathlib.Core.List.{List, [], ◌∷◌, map}
use Prim.Native.Nat.{ℕ}
use native.Mathlib.Omega.{arith}
use Rattle.fop.specs.Events.{SenderEvent, request_ad, request_bd, tick, lower, directive, word_arrives}
use Rattle.session.specs.Ends.{Settings, Within, Ends, Tied, Brought, tables, start_sender}
use Rattle.session.specs.Session.{Event, ad_request, bd_request, ticks, lower_says, terminate, resume, word_in, word_lost, word_made, frame_in, frame_lost, release, Linked, begins, to_sender, word_come, frame_come, releases, step}
use Rattle.session.specs.Channels.{LinkEvent, demanded, frame_stays, word_stays, frame_filled, frame_again, noise, word_noise, link_step}
use Rattle.session.specs.Suspension.{link_rejects, link_unrejected}
use Rattle.session.specs.Signed.{DemandedAlerting}
use Rattle.session.specs.Beyond.{BeyondAlerting}
use Rattle.session.proofs.Suspended.{admitted_serving}
use Rattle.session.proofs.Idle.{Idle, Alerting, idle}
use Rattle.session.proofs.Linked.{unrejected_demanded}
use Rattle.session.proofs.Theorem.{demand3}
use Rattle.session.proofs.Beyond.{beyond}

-- what a session brings does not set Timeout_Type
keeps_type : (e : SenderEvent) → Brought e → Alerting e
keeps_type (request_ad o) b = tt
keeps_type (request_bd o) b = tt
keeps_type tick b = tt
keeps_type (lower l) b = tt
keeps_type (directive d v) (inl q) = λ z. absurd (omega (arith, q, z))
keeps_type (directive d v) (inr q) = λ z. absurd (omega (arith, q, z))
keeps_type (word_arrives s) b = tt

module _ (set : Settings) where
  -- the tables' sender is not suspended, at Timeout_Type 0
  abbrev Serving : Linked (tables set) → Type 0
  Serving γ = Idle γ.sender

  asked : (e : SenderEvent) → Brought e → (lent : ℕ) (ws : List (List ℕ)) (γ : Linked (tables set)) → Serving γ
      → Serving (to_sender set (tables set) e lent ws γ)
  unfolding to_sender
  asked e b lent ws γ h = (idle set.own e lent γ.sender (keeps_type e b) h).0

  word_come_lem : (lent : ℕ) (ws : List (List ℕ)) (γ : Linked (tables set)) → Serving γ → Serving (word_come set (tables set) lent ws γ)
  unfolding word_come
  word_come_lem lent [] γ h = h
  word_come_lem lent (w ∷ ws) γ h = asked (word_arrives w) tt lent ws γ h

  frame_come_lem : (fs : List (List ℕ)) (γ : Linked (tables set)) → Serving γ → Serving (frame_come set (tables set) fs γ)
  unfolding frame_come
  frame_come_lem [] γ h = h
  frame_come_lem (x ∷ fs) γ h = h

  stepped : (e : Event) (γ : Linked (tables set)) → Serving γ → Serving (step set (tables set) e γ)
  unfolding step releases
  stepped (ad_request o lent) γ h = asked (request_ad o) tt lent γ.words γ h
  stepped (bd_request o lent) γ h = asked (request_bd o) tt lent γ.words γ h
  stepped (ticks lent) γ h = asked tick tt lent γ.words γ h
  stepped (lower_says l lent) γ h = asked (lower l) tt lent γ.words γ h
  stepped (terminate v lent) γ h = asked (directive 5 v) (inl refl) lent γ.words γ h
  stepped (resume v lent) γ h = asked (directive 6 v) (inr refl) lent γ.words γ h
  stepped (word_in lent) γ h = word_come_lem lent γ.words γ h
  stepped word_lost γ h = h
  stepped (word_made lent) γ h = h
  stepped frame_in γ h = frame_come_lem γ.frames γ h
  stepped frame_lost γ h = h
  stepped release γ h = h

  linked : (kept : ℕ) (e : LinkEvent) (γ : Linked (tables set)) → Serving γ → Serving (link_step set kept (tables set) e γ)
  unfolding link_step
  linked kept (demanded e) γ h = stepped e γ h
  linked kept (frame_stays fill) γ h = frame_come_lem _ γ h
  linked kept (word_stays lent) γ h = word_come_lem lent _ γ h
  linked kept (frame_filled fill) γ h = frame_come_lem _ γ h
  linked kept (frame_again i) γ h = h
  linked kept (noise o) γ h = frame_come_lem _ γ h
  linked kept (word_noise o lent) γ h = word_come_lem lent _ γ h

  none_rejected : (kept : ℕ) (es : List LinkEvent) (γ : Linked (tables set)) → Serving γ → link_unrejected set kept es γ ≡ true
  unfolding link_unrejected
  none_rejected kept [] γ h = refl
  none_rejected kept (e ∷ es) γ h =
      ap (λ (b : Bool). b && link_unrejected set kept es (link_step set kept (tables set) e γ)) (admitted_serving (link_rejects e) γ.sender h.not_suspended)
      ∙ none_rejected kept es (link_step set kept (tables set) e γ) (linked kept e γ h)

  -- the start
  starts : set.timeout_type ≡ 0 → Serving (begins (tables set))
  unfolding begins start_sender
  starts z = record { not_suspended = refl; alerting = z }

pub demand3_alerting : (set : Settings) → Within set → (m : Ends) → Tied set m → DemandedAlerting set m
demand3_alerting set vw m t z es =
    demand3 set vw m t es (sym (unrejected_demanded set 0 es (begins (tables set))) ∙ none_rejected set 0 (map demanded es) (begins (tables set)) (starts set z))

pub beyond_alerting : (set : Settings) → Within set → (m : Ends) → Tied set m → BeyondAlerting set m
beyond_alerting set vw m t z kept most es = beyond set vw m t kept most es (none_rejected set kept es (begins (tables set)) (starts set z))
