-- Document 02, order 11, of every sender that does as table 7-8 says (`accounted`), from the flow law of an event; and the table machine is such a sender
-- (`tables_by_table`). The ledger is tied to the machine before the first event, and each event keeps that, done or refused.
use mathlib.Core.Path.{◌≡◌, refl, sym, ap, ap₂, subst, subst₂, ◌∙◌}
use mathlib.Core.List.{List, [], ◌∷◌, ◌++◌, append_assoc, append-nil}
use native.Mathlib.Omega.{arith}
use Rattle.fop.specs.Units.{Own}
use Rattle.fop.specs.Variables.{Fop}
use Rattle.fop.specs.Events.{SenderEvent}
use Rattle.fop.specs.Answers.{Answer}
use Rattle.fop.proofs.Choices.{none_some}
use Rattle.fop.proofs.Lent.{lent_ways}
use Rattle.ledger.specs.Ledger.{Turn, Ledger, empty, enter, enter_all, ledger}
use Rattle.ledger.specs.Accounted.{Accounted, Sender, after, turns, AllFit, tables, table_turns, Fresh, Within, start_of, AllAccounted, ByTable, table_machine}
use Rattle.ledger.proofs.Flow.{Well}
use Rattle.ledger.proofs.Rows.{flows}
use Rattle.ledger.proofs.AccountsTied.{Tied, claims}
use Rattle.ledger.proofs.AccountsStep.{refused_step_lem, done_step_lem}

-- the ledger with one more turn
ledger_last : (own : Own) (ts : List Turn) (t : Turn) (l : Ledger) → enter_all own (ts ++ (t ∷ [])) l ≡ enter own t (enter_all own ts l)
unfolding enter_all
ledger_last own [] t l = refl
ledger_last own (s ∷ ts) t l = ledger_last own ts t (enter own s l)

-- before the first event
start_well : (s : Fresh) → Within s → Well (start_of s)
start_well s w = record {
  oldest = s.vs;
  follows = tt;
  up_to = omega (arith, w.vs);
  oldest_most = w.vs;
  vs_most = w.vs;
  nnr_most = w.nnr;
  inside = omega arith;
  most = omega arith;
  window = w.window_most;
  waiting_legal = λ o e. absurd (none_some e);
  outside = tt;
  none_sent = λ e. refl;
  none_waits = λ e. refl;
}

start_tied : (s : Fresh) → Within s → Tied [] (start_of s) (ledger s.own [])
unfolding enter_all
start_tied s w = record {
  well = start_well s w;
  turns = refl;
  weighed = λ g. refl;
  front = [];
  back = [];
  whole = refl;
  settled = refl;
  stands = refl;
  waits = refl;
}

-- the turn of a sender at an event
abbrev turn_of : (m : Sender) → SenderEvent × m.Lent → m.Held → Turn
turn_of m e x = record { event = e.0; answer = m.answer e.0 e.1 x }

module _ (s : Fresh) (m : Sender) (by : ByTable s m) where
  -- the table machine over the same list is what the sender reads as
  same_tables : (es : List (SenderEvent × m.Lent)) (x : m.Held) → AllFit m es x → by.Well x
      → tables m s.own es (m.reads x) ≡ m.reads (after m es x)
  unfolding tables after AllFit
  same_tables [] x fit w = refl
  same_tables (e ∷ es) x fit w =
      ap (tables m s.own es) (sym (by.next e.0 e.1 x fit.0 w))
      ∙ same_tables es (m.next e.0 e.1 x) fit.1 (by.keeps e.0 e.1 x fit.0 w)

  -- and its answers are the sender's
  same_turns : (es : List (SenderEvent × m.Lent)) (x : m.Held) → AllFit m es x → by.Well x → turns m es x ≡ table_turns m s.own es (m.reads x)
  unfolding turns table_turns AllFit
  same_turns [] x fit w = refl
  same_turns (e ∷ es) x fit w =
      ap₂ (λ (a : Answer) (ts : List Turn). record { event = e.0; answer = a } ∷ ts) (by.answer e.0 e.1 x fit.0 w)
      (same_turns es (m.next e.0 e.1 x) fit.1 (by.keeps e.0 e.1 x fit.0 w)
      ∙ ap (table_turns m s.own es) (by.next e.0 e.1 x fit.0 w))

module _ (s : Fresh) (within : Within s) (m : Sender) (by : ByTable s m) where
  -- one event
  step : (ts : List Turn) (e : SenderEvent × m.Lent) (x : m.Held) → m.Fits e.1 x → by.Well x → Tied ts (m.reads x) (ledger s.own ts)
      → Tied (ts ++ (turn_of m e x ∷ [])) (m.reads (m.next e.0 e.1 x)) (ledger s.own (ts ++ (turn_of m e x ∷ [])))
  step ts e x fit w t =
      subst (Tied (ts ++ (turn_of m e x ∷ [])) (m.reads (m.next e.0 e.1 x))) (sym (ledger_last s.own ts (turn_of m e x) empty))
      (subst₂ P (sym (by.answer e.0 e.1 x fit w)) (sym (by.next e.0 e.1 x fit w))
      (lent_ways s.own e.0 (m.stored e.1) (m.room e.1) (m.reads x) P
      (λ j. done_step_lem s.own ts (m.reads x) (ledger s.own ts) t e.0 within.spacecraft within.channel j (flows s.own e.0 (m.reads x) t.well j))
      (λ r z. refused_step_lem s.own ts (m.reads x) (ledger s.own ts) t e.0 r z)))
    where
      P : Answer → Fop → Type 0
      P a g = Tied (ts ++ (record { event = e.0; answer = a } ∷ [])) g (enter s.own (record { event = e.0; answer = a }) (ledger s.own ts))

  -- the events of a list, after those of ts
  along : (es : List (SenderEvent × m.Lent)) (ts : List Turn) (x : m.Held) → AllFit m es x → by.Well x → Tied ts (m.reads x) (ledger s.own ts)
      → Tied (ts ++ turns m es x) (m.reads (after m es x)) (ledger s.own (ts ++ turns m es x))
  unfolding turns after AllFit
  along [] ts x fit w t = subst (λ (us : List Turn). Tied us (m.reads x) (ledger s.own us)) (sym (append-nil ts)) t
  along (e ∷ es) ts x fit w t =
      subst (λ (us : List Turn). Tied us (m.reads (after m (e ∷ es) x)) (ledger s.own us)) (append_assoc ts (turn_of m e x ∷ []) (turns m es (m.next e.0 e.1 x)))
      (along es (ts ++ (turn_of m e x ∷ [])) (m.next e.0 e.1 x) fit.1 (by.keeps e.0 e.1 x fit.0 w) (step ts e x fit.0 w t))

  -- so the claims hold of what the sender then reads as
  now : (es : List (SenderEvent × m.Lent)) → AllFit m es m.fresh → Accounted s.own (turns m es m.fresh) (m.reads (after m es m.fresh))
  now es fit =
      claims s.own (turns m es m.fresh) (m.reads (after m es m.fresh))
      (along es [] m.fresh fit by.well (subst (λ (f : Fop). Tied [] f (ledger s.own [])) (sym by.start) (start_tied s within)))

pub accounted : (s : Fresh) → Within s → (m : Sender) → ByTable s m → AllAccounted s m
accounted s within m by = record {
  by_tables = λ es fit.
      subst (Accounted s.own (turns m es m.fresh))
      (sym (same_tables s m by es m.fresh fit by.well) ∙ ap (tables m s.own es) by.start) (now s within m by es fit);
  held = now s within m by;
  same = λ es fit. ap (ledger s.own) (same_turns s m by es m.fresh fit by.well ∙ ap (table_turns m s.own es) by.start);
}

pub tables_by_table : (s : Fresh) → ByTable s (table_machine s)
tables_by_table s = record {
  Well = λ f. Unit {0};
  well = tt;
  keeps = λ e l f fit w. tt;
  start = refl;
  next = λ e l f fit w. refl;
  answer = λ e l f fit w. refl;
}

-- so of the table machine itself, with any store and room lent
pub accounted_tables : (s : Fresh) → Within s → AllAccounted s (table_machine s)
accounted_tables s within = accounted s within (table_machine s) (tables_by_table s)
