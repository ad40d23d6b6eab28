-- The state that octets would hold, by its parts.
use Rattle.std.specs.Prelude.{Option}
use mathlib.Core.Path.{◌≡◌, ap, ap₂, ◌∙◌}
use mathlib.Core.Bool.{Bool}
use mathlib.Core.List.{List}
use Prim.Native.Nat.{ℕ}
use lib.ListN.{get_or}
use Rattle.base.specs.Flags.{is_set}
use Rattle.store.specs.Places.{places}
use Rattle.fop.specs.declared.State.{State}
use Rattle.sender_values.specs.declared.Settings.{Settings}
use Rattle.sender_values.specs.declared.Variables.{Variables}
use Rattle.sender_values.specs.declared.Queues.{Queues}
use Rattle.sender_values.specs.declared.Control.{Control}
use Rattle.sender_values.specs.declared.SenderState.{SenderState}
use Rattle.sender_octets.specs.Kept.{number_octets, state_in, state_numbered, control_numbered, pair_at, pairs_from}

module _ (o : List ℕ) where
  abbrev pub settings_with : ℕ → ℕ → Settings
  settings_with t1 spacecraft = record {
    k = get_or o 3 0;
    t1_initial = t1;
    transmission_limit = get_or o 6 0;
    timeout_type = get_or o 7 0;
    spacecraft = spacecraft;
    channel = get_or o 10 0;
  }

  pub settings_by : {t1 spacecraft : ℕ} → t1 ≡ pair_at o 4 → spacecraft ≡ pair_at o 8 → settings_with t1 spacecraft ≡ (state_in o).settings
  unfolding state_in
  settings_by et es = ap₂ settings_with et es

  abbrev pub variables_with : ℕ → Bool → Bool → Bool → Variables
  variables_with timer ad bc bd = record {
    vs = get_or o 11 0;
    nnr = get_or o 12 0;
    timer = timer;
    transmission_count = get_or o 15 0;
    ad_out = ad;
    bc_out = bc;
    bd_out = bd;
    suspend_state = get_or o 17 0;
  }

  pub variables_by : {timer : ℕ} {ad bc bd : Bool} → timer ≡ pair_at o 13 → ad ≡ is_set (get_or o 16 0) 1 → bc ≡ is_set (get_or o 16 0) 2 → bd ≡ is_set (get_or o 16 0) 4
      → variables_with timer ad bc bd ≡ (state_in o).variables
  unfolding state_in
  variables_by {bc = bc} {bd = bd} et ea ec ed =
      ap₂ (λ (t : ℕ) (a : Bool). variables_with t a bc bd) et ea ∙ ap₂ (λ (c d : Bool). variables_with (pair_at o 13) (is_set (get_or o 16 0) 1) c d) ec ed

  abbrev pub queues_with : Bool → Option Control → Bool → Queues
  queues_with waiting control marked = record {
    sent = get_or o 18 0;
    marked = get_or o 19 0;
    waiting = waiting;
    control = control;
    control_marked = marked;
  }

  pub queues_by : {waiting : Bool} {control : Option Control} {marked : Bool} → waiting ≡ is_set (get_or o 16 0) 8
      → control ≡ control_numbered (get_or o 20 0) (get_or o 21 0) → marked ≡ is_set (get_or o 16 0) 16 → queues_with waiting control marked ≡ (state_in o).queues
  unfolding state_in
  queues_by {marked = marked} ew ec em =
      ap₂ (λ (w : Bool) (c : Option Control). queues_with w c marked) ew ec
      ∙ ap (queues_with (is_set (get_or o 16 0) 8) (control_numbered (get_or o 20 0) (get_or o 21 0))) em

  -- the state with these parts
  abbrev state_with : State → Settings → Variables → Queues → List ℕ → SenderState
  state_with s g v q ls = record { state = s; settings = g; variables = v; queues = q; lengths = ls }

  pub state_by : {state : State} {settings : Settings} {variables : Variables} {queues : Queues} {lengths : List ℕ} → state ≡ state_numbered (get_or o 2 0)
      → settings ≡ (state_in o).settings → variables ≡ (state_in o).variables → queues ≡ (state_in o).queues → lengths ≡ pairs_from o number_octets places
      → state_with state settings variables queues lengths ≡ state_in o
  unfolding state_in
  state_by {variables = variables} {queues = queues} {lengths = lengths} es eg ev eq el =
      ap₂ (λ (s : State) (g : Settings). state_with s g variables queues lengths) es eg
      ∙ ap₂ (λ (v : Variables) (q : Queues). state_with (state_in o).state (state_in o).settings v q lengths) ev eq
      ∙ ap (state_with (state_in o).state (state_in o).settings (state_in o).variables (state_in o).queues) el
