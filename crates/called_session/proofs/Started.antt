-- What `pondreszi_sender_new` gives, with settings within their limits, any two numbers and a store that suffices: no refusal, and in a buffer of a state's
-- length the octets of the sender at its start. So a caller keeps that sender, and it is well-formed (`started`).
use Rattle.std.specs.Prelude.{Result, Ok}
use Prim.Native.Nat.{ℕ, ◌≤◌}
use mathlib.Core.Path.{◌≡◌, refl, sym, ap, subst, ◌∙◌}
use mathlib.Core.Bool.{Bool, true}
use mathlib.Core.List.{List}
use native.Mathlib.Omega.{arith}
use borrow.Author.Tests.{le-leb}
use lib.ListN.{length}
use Rattle.base.specs.Choice.{must}
use Rattle.memory.specs.Placed.{placed}
use Rattle.fop.specs.Limits.{largest_number, largest_timer, largest_transmission_limit}
use Rattle.fop.specs.Store.{store_need}
use Rattle.fop.specs.Units.{Own}
use Rattle.sender_values.specs.declared.SenderState.{SenderState}
use Rattle.sender_values.specs.declared.Settings.{Settings}
use Rattle.sender_values.specs.Start.{start_of}
use Rattle.sender_rows_view.specs.State.{Good}
use Rattle.sender_state.specs.State.{settings_hold}
use Rattle.base.specs.declared.Refusal.{Refusal}
use Rattle.sender.specs.declared.Sender.{Sender}
use Rattle.sender_octets.specs.Kept.{state_octets, octets_of, is_state}
use Rattle.sender_octets.proofs.Judged.{length_octets}
use Rattle.pondreszi_sender.specs.Senders as sender
use Rattle.our_session.proofs.Restored.{start_done, start_good}
use Rattle.our_session.proofs.Theorem.{GoodHeld}
use Rattle.our_session.proofs.Widened.{good_well}
use Rattle.called_session.specs.Called.{Kept, held_in}
use Rattle.called_session.proofs.Sender.{placed_whole, GoodKept, octets_kept}

-- the call, and what its caller keeps
abbrev pub new_of : Settings → ℕ → ℕ → List ℕ → List ℕ → sender.New
new_of g vs nnr store buffer =
    sender.new_call g.k g.t1_initial g.transmission_limit g.timeout_type g.spacecraft g.channel vs nnr store buffer

abbrev pub new_kept : Settings → ℕ → ℕ → List ℕ → List ℕ → Kept
new_kept g vs nnr store buffer = record { state = (new_of g vs nnr store buffer).state; store = store }

pub record Started (g : Settings) (vs nnr : ℕ) (store buffer : List ℕ) : Type 0 where
  pub number : (new_of g vs nnr store buffer).number ≡ 0
  pub held : held_in (new_kept g vs nnr store buffer) ≡ record { sender = record { fop = start_of g vs nnr }; store = store }
  pub good : GoodKept (record { spacecraft = g.spacecraft; channel = g.channel }) (new_kept g vs nnr store buffer)

module _ (g : Settings) (limits : settings_hold g ≡ true) (timer : g.t1_initial ≤ largest_timer) (limit : g.transmission_limit ≤ largest_transmission_limit)
    (vs nnr : ℕ) (v : vs ≤ largest_number) (n : nnr ≤ largest_number) (store : List ℕ) (long : store_need g.k 0 ≤ length store)
    (buffer : List ℕ) (sized : length buffer ≡ state_octets) where
  abbrev own : Own
  own = record { spacecraft = g.spacecraft; channel = g.channel }

  abbrev first : SenderState
  first = start_of g vs nnr

  given : sender.start_given g.k g.t1_initial g.transmission_limit g.timeout_type g.spacecraft g.channel vs nnr (length store)
      ≡ Ok (record { fop = first })
  unfolding sender.start_given
  given =
      simp (
        le-leb g.t1_initial largest_timer timer,
        le-leb g.transmission_limit largest_transmission_limit limit,
        le-leb vs largest_number v,
        le-leb nnr largest_number n,
      )
      (start_done g vs nnr limits (length store) long)

  new_done : new_of g vs nnr store buffer ≡ record { number = 0; state = octets_of first }
  unfolding sender.new_call start_of
  new_done =
      let l : state_octets ≤ length buffer = omega arith in
      ap (λ (x : Result Sender Refusal). sender.started_call x buffer) given
      ∙ ap (λ (b : Bool). must b (record { number = 11; state = buffer }) (record { number = 0; state = placed buffer 0 (octets_of first) }))
      (le-leb state_octets (length buffer) l)
      ∙ ap (λ (o : List ℕ). record { number = 0; state = o }) (placed_whole buffer (octets_of first) (length_octets first refl ∙ sym sized))

  first_good : Good own first store
  first_good = start_good g vs nnr limits store (omega (arith, v)) (omega (arith, n)) limit long

  new_held : held_in (new_kept g vs nnr store buffer) ≡ record { sender = record { fop = first }; store = store }
  new_held =
      ap (λ (x : sender.New). held_in (record { state = x.state; store = store })) new_done
      ∙ ap (λ (s : SenderState). record { sender = record { fop = s }; store = store }) (octets_kept own first (good_well first_good)).1

  pub started : Started g vs nnr store buffer
  started = record {
    number = ap (λ (x : sender.New). x.number) new_done;
    held = new_held;
    good = record {
      is = ap (λ (x : sender.New). is_state x.state) new_done ∙ (octets_kept own first (good_well first_good)).0;
      good = subst (GoodHeld own) (sym new_held) first_good;
    };
  }
