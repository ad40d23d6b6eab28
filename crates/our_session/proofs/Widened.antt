-- A well-formed sender with another store that suffices, or with another K (`widened_good`). Set K (E36) depends on the new K alone: done to a
-- sender that has the new K already it is the same, for the struct and for the table machine; it hands nothing down and confirms nothing. So
-- the store's need by the former K plays no part at Set K.
use Rattle.std.specs.Prelude.{None}
use Prim.Native.Nat.{ℕ, ◌≤◌}
use mathlib.Core.Path.{◌≡◌, refl}
use mathlib.Core.List.{List, []}
use mathlib.Core.Option.{some}
use lib.ListN.{length, replicate, length-replicate}
use native.Mathlib.Omega.{arith}
use Rattle.fop.specs.Limits.{largest_k}
use Rattle.fop.specs.Units.{Own}
use Rattle.fop.specs.declared.Event.TheVariants.{E36}
use Rattle.fop.specs.Table.{table78, cell78}
use Rattle.fop.specs.Variables as machine
use Rattle.fop.specs.Machine.{perform, perform_all, perform_cell, fop_do}
use Rattle.fop.specs.Store.{store_need}
use Rattle.fop.specs.declared.State.{State}
use Rattle.sender_values.specs.declared.SenderState.{SenderState}
use Rattle.sender_values.specs.declared.Work.{Work}
use Rattle.sender_values.specs.Actions as act
use Rattle.sender_values.specs.Parts.{with_settings, with_told}
use Rattle.sender_values.specs.Start.{begun, none_told}
use Rattle.sender_view.specs.View.{fop_of}
use Rattle.sender_table.specs.Rows.{done, done_all, done_cell, row_of}
use Rattle.sender_rows_view.specs.State.{Good}
use Rattle.sender_rows_view.proofs.Allowed.{in_states}
use Rattle.sender_frames.specs.Limits.{need_of}
use Rattle.our_session.specs.Does.{Well}

-- the sender with another K
abbrev pub widened : ℕ → SenderState → SenderState
widened k s = record {
  state = s.state;
  settings = record {
    k = k;
    t1_initial = s.settings.t1_initial;
    transmission_limit = s.settings.transmission_limit;
    timeout_type = s.settings.timeout_type;
    spacecraft = s.settings.spacecraft;
    channel = s.settings.channel;
  };
  variables = s.variables;
  queues = s.queues;
  lengths = s.lengths;
}

pub widened_good : (own : Own) (s : SenderState) (store : List ℕ) → Good own s store → (k : ℕ) → 1 ≤ k → k ≤ largest_k → (other : List ℕ)
    → store_need k s.queues.sent ≤ length other → Good own (widened k s) other
unfolding begun
widened_good own s store g k least most other room = record {
  formed = record {
    vs_octet = g.formed.vs_octet;
    nnr_octet = g.formed.nnr_octet;
    sent_most = g.formed.sent_most;
    outstanding = g.formed.outstanding;
    last = g.formed.last;
    all_places = g.formed.all_places;
    units = g.formed.units;
    room = room;
  };
  window_least = least;
  window = most;
  clock_least = g.clock_least;
  limit_least = g.limit_least;
  limit = g.limit;
  count_least = g.count_least;
  count_most = g.count_most;
  type_most = g.type_most;
  suspend_most = g.suspend_most;
  suspend_initial = g.suspend_initial;
  sent_main = g.sent_main;
  waiting_main = g.waiting_main;
  stopped = g.stopped;
  control_s5 = g.control_s5;
  filled = g.filled;
  spacecraft = g.spacecraft;
  channel = g.channel;
  spacecraft_most = g.spacecraft_most;
  channel_most = g.channel_most;
}

-- a sender that is well-formed with one store is so with every store that suffices
pub good_well : {own : Own} {s : SenderState} {store : List ℕ} → Good own s store → Well own s
good_well {own} {s} {store} g other room = widened_good own s store g s.settings.k g.window_least g.window other room

-- and there is such a store
pub well_good : (own : Own) (s : SenderState) → Well own s → Good own s (replicate (need_of s) 0)
well_good own s w = w (replicate (need_of s) 0) (omega (arith, length-replicate {A = ℕ} (need_of s) 0))

module _ (v : ℕ) (s : SenderState) where
  abbrev in_state : State → SenderState → Work
  in_state x t = done_cell (cell78 (table78 E36) x) v (begun t)

  pub row_widened : (k : ℕ) → row_of E36 v (begun s) ≡ row_of E36 v (begun (widened k s))
  unfolding row_of table78 done_cell done_all done act.respond act.set_k act.to_state with_settings with_told begun none_told
  row_widened k =
      in_states (λ x. in_state x s ≡ in_state x (widened k s)) refl refl refl refl refl refl s.state

  pub row_none : ((row_of E36 v (begun s)).told.handed ≡ None) × ((row_of E36 v (begun s)).told.confirmed.count ≡ 0)
  unfolding row_of table78 done_cell done_all done act.respond act.set_k act.to_state with_settings with_told begun none_told
  row_none =
      in_states (λ x. ((in_state x s).told.handed ≡ None) × ((in_state x s).told.confirmed.count ≡ 0)) (refl, refl) (refl, refl) (refl, refl) (refl, refl)
      (refl, refl) (refl, refl) s.state

  module _ (k : ℕ) (lengths store : List ℕ) where
    abbrev worked : State → SenderState → machine.Work
    worked x t = perform_cell (cell78 (table78 E36) x) (machine.begin (some E36) [] v (fop_of (begun t) lengths store))

    pub table_widened : fop_do E36 [] v (fop_of (begun s) lengths store) ≡ fop_do E36 [] v (fop_of (begun (widened k s)) lengths store)
    unfolding fop_do perform_cell perform_all perform table78 begun
    table_widened = in_states (λ x. worked x s ≡ worked x (widened k s)) refl refl refl refl refl refl s.state

    pub table_none : (fop_do E36 [] v (fop_of (begun s) lengths store)).frames ≡ []
    unfolding fop_do perform_cell perform_all perform table78 begun
    table_none = in_states (λ x. (worked x s).frames ≡ []) refl refl refl refl refl refl s.state
