-- Table 7-9's words that change no variable: Accept, Discard, Not Applicable, Ignore and Report. No step reads them, so the cells are computed here,
-- one by one: no word of a cell can be exchanged for another.
use mathlib.Core.Path.{◌≡◌, refl}
use mathlib.Core.Bool.{Bool, true, false}
use mathlib.Core.List.{List, [], ◌∷◌}
use Rattle.base.specs.Choice.{pick}
use Rattle.base.proofs.Tests.{apart}
use Rattle.farm.specs.declared.State.{State}
use Rattle.farm.specs.declared.State.TheVariants.{Open, Wait, Lockout}
use Rattle.farm.specs.declared.Event.{Event}
use Rattle.farm.specs.declared.Event.TheVariants.{E1, E2, E3, E4, E5, E6, E7, E8, E9, E10, E11}
use Rattle.farm.specs.Table.{Action, Accept, Discard, Ignore, NotApplicable, IncrementVr, SetVr, IncrementFarmBCounter, LockoutFlag, WaitFlag, RetransmitFlag, Report}
use Rattle.farm.specs.Table.{table}
use Rattle.farm.proofs.Cells.{by_state, by_event_lem}

-- the action changes a variable
abbrev pub changes : Action → Bool
changes Accept = false
changes Discard = false
changes Ignore = false
changes NotApplicable = false
changes Report = false
changes IncrementVr = true
changes SetVr = true
changes IncrementFarmBCounter = true
changes (LockoutFlag b) = true
changes (WaitFlag b) = true
changes (RetransmitFlag b) = true

-- the words among actions that change no variable
abbrev pub words_in : List Action → List Action
words_in [] = []
words_in (a ∷ rest) = pick (changes a) (words_in rest) (a ∷ words_in rest)

-- a frame's event (E1 to E6, E9) has one word: Accept at E1 in Open and at E6; Not Applicable at E1 in Wait, which can't arise (specs/Window); else
-- Discard. A command (E7, E8) has none. A release is Ignore in Open; the report time is Report.
abbrev pub words_at : Event → State → List Action
words_at E1 Open = Accept ∷ []
words_at E1 Wait = NotApplicable ∷ []
words_at E1 Lockout = Discard ∷ []
words_at E2 s = Discard ∷ []
words_at E3 s = Discard ∷ []
words_at E4 s = Discard ∷ []
words_at E5 s = Discard ∷ []
words_at E6 s = Accept ∷ []
words_at E7 s = []
words_at E8 s = []
words_at E9 s = Discard ∷ []
words_at E10 Open = Ignore ∷ []
words_at E10 Wait = []
words_at E10 Lockout = []
words_at E11 s = Report ∷ []

abbrev Worded : Event → State → Type 0
Worded e s = words_in (table e s).actions ≡ words_at e s

pub words : (e : Event) (s : State) → Worded e s
unfolding table
words =
    by_event_lem (λ (e : Event). (s : State) → Worded e s)
    (by_state (Worded E1) refl refl refl)
    (by_state (Worded E2) refl refl refl)
    (by_state (Worded E3) refl refl refl)
    (by_state (Worded E4) refl refl refl)
    (by_state (Worded E5) refl refl refl)
    (by_state (Worded E6) refl refl refl)
    (by_state (Worded E7) refl refl refl)
    (by_state (Worded E8) refl refl refl)
    (by_state (Worded E9) refl refl refl)
    (by_state (Worded E10) refl refl refl)
    (by_state (Worded E11) refl refl refl)

-- Not Applicable, Ignore and Report say that nothing is changed
abbrev pub says_unchanged : List Action → Bool
says_unchanged [] = false
says_unchanged (Accept ∷ rest) = says_unchanged rest
says_unchanged (Discard ∷ rest) = says_unchanged rest
says_unchanged (Ignore ∷ rest) = true
says_unchanged (NotApplicable ∷ rest) = true
says_unchanged (Report ∷ rest) = true
says_unchanged (IncrementVr ∷ rest) = says_unchanged rest
says_unchanged (SetVr ∷ rest) = says_unchanged rest
says_unchanged (IncrementFarmBCounter ∷ rest) = says_unchanged rest
says_unchanged (LockoutFlag b ∷ rest) = says_unchanged rest
says_unchanged (WaitFlag b ∷ rest) = says_unchanged rest
says_unchanged (RetransmitFlag b ∷ rest) = says_unchanged rest

-- such a word stands alone, and its cell keeps the state
abbrev Alone : Event → State → Type 0
Alone e s = says_unchanged (table e s).actions ≡ true → table e s ≡ record { actions = words_at e s; next = s }

pub alone : (e : Event) (s : State) → Alone e s
unfolding table
alone =
    by_event_lem (λ (e : Event). (s : State) → Alone e s)
    (by_state (Alone E1) not_so (λ h. refl) not_so)
    (by_state (Alone E2) not_so not_so not_so)
    (by_state (Alone E3) not_so not_so not_so)
    (by_state (Alone E4) not_so not_so not_so)
    (by_state (Alone E5) not_so not_so not_so)
    (by_state (Alone E6) not_so not_so not_so)
    (by_state (Alone E7) not_so not_so not_so)
    (by_state (Alone E8) not_so not_so not_so)
    (by_state (Alone E9) not_so not_so not_so)
    (by_state (Alone E10) (λ h. refl) not_so not_so)
    (by_state (Alone E11) (λ h. refl) (λ h. refl) (λ h. refl))
  where
    not_so : {P : Type 0} → false ≡ true → P
    not_so h = absurd (apart h)
