-- Wrong receivers of several channels that specs/Isolation's statements refuse, each ours but for one thing, each by a computed witness: one that writes the neighbour's
-- record, one that counts the pool twice, one that takes two buffers at once, one whose release of a channel that holds none lowers the pool, one that accepts an
-- expected frame in Wait where the pool has room, one whose refused frame counts on a channel, one that answers by its own channel's count, one that keeps the
-- last buffers for channels that wait; and, by specs/Rows, one that does not wait where it holds none, one that hears nothing in Wait where it holds none, and one whose
-- release of a channel in Wait that holds none clears retransmit.
use mathlib.Core.Path.{◌≡◌, refl, sym, ap}
use mathlib.Core.Bool.{Bool, true, false, not, ◌||◌}
use mathlib.Core.List.{List, [], ◌∷◌}
use Prim.Native.Nat.{ℕ, suc, ◌+◌, ◌-◌}
use native.Mathlib.Omega.{arith}
use lib.Dec.{eqb}
use lib.ListN.{length, get_or}
use Rattle.base.specs.Choice.{pick, must, both}
use Rattle.base.proofs.Tests.{apart}
use Rattle.farm.specs.Table.{step_of}
use Rattle.farm.specs.Window.{not_wait}
use Rattle.farm.specs.declared.Event.TheVariants.{E6}
use Rattle.farm.specs.declared.State.TheVariants.{Open, Wait}
use Rattle.receiver.specs.declared.Channel.{Channel}
use Rattle.receiver.specs.Channel.{become, takes}
use Rattle.channels.specs.Table.{place_of, held_in, no_record, record_of, Turn, records_after, frame_turn, unit_part, release_turn, word_writing}
use Rattle.channels.specs.Isolation.{Machine, ours, named, Isolated, Refusals, Reads, ReadsThere, Pooled, NamedRelease, Waiting}
use Rattle.channels.specs.Rows.{Rows}
use Rattle.channels.proofs.Examples.{computing, tested, octets3, octets5, octets9, octets_unlock3, ad3, ad5, bad3, one, start, waiting}

-- ours, but for what a change makes of a turn, by the pool, the records and the channel
abbrev Change : Type 0
Change = ℕ → List Channel → ℕ → Turn → Turn

abbrev wrong : Change → Change → Machine
wrong frame release = record {
  frame = λ spacecraft pool cs octets. frame pool cs (named octets) (frame_turn spacecraft pool cs octets);
  unit = unit_part;
  release = λ spacecraft pool cs n. release pool cs n (release_turn spacecraft pool cs n);
  word = word_writing;
}

abbrev unchanged : Change
unchanged pool cs n t = t

-- with no change it is ours
same : wrong unchanged unchanged ≡ ours
same = refl

-- another record at another place
abbrev written : ℕ → Channel → Turn → Turn
written place next t = record { refusal = t.refusal; event = t.event; channel = t.channel; unit = t.unit; place = place; next = next }

-- the record goes to the neighbour's place
abbrev neighbour : Machine
neighbour = wrong (λ pool cs n t. written (suc t.place) t.next t) unchanged

refuted_neighbour : Isolated neighbour 5 1 start → ⊥
unfolding computing
refuted_neighbour law = omega (arith, ap (λ (c : Channel). c.number) (law.others ad3 5 (λ e. omega arith)))

-- The pool counted twice: a buffer that is free is not seen.
abbrev twice : Machine
twice = record { frame = λ spacecraft pool cs octets. frame_turn spacecraft (pool - held_in cs) cs octets; unit = unit_part; release = release_turn; word = word_writing }

-- 3 holds one of two, 5 holds none
abbrev held : List Channel
held = one 3 1 Open 1 false false 0 ∷ one 5 0 Open 0 false false 0 ∷ []

refuted_twice : ReadsThere twice 5 2 held → ⊥
unfolding computing
refuted_twice law = omega (arith, (law.expected refl octets5 (tested octets5 refl) refl).1)

-- two buffers taken at once
abbrev double : Machine
double = wrong (λ pool cs n t. written t.place (become (t.next.held + takes t.unit) t.next.variables t.next) t) unchanged

refuted_double : Pooled double 5 1 start → ⊥
unfolding computing
refuted_double law = omega (arith, law.frames octets3 (tested octets3 refl))

-- a release of a channel that holds none gives back a buffer of another
abbrev less : Channel → Channel
less c = become (c.held - 1) c.variables c

abbrev lowers : Machine
lowers = wrong unchanged (λ pool cs n t. pick (both (eqb t.refusal 0) (eqb (record_of n cs).held 0)) (written 0 (less (get_or cs 0 no_record)) t) t)

-- 3 holds one of two, 5 waits and holds none
abbrev waits : List Channel
waits = one 3 1 Open 1 false false 0 ∷ one 5 0 Wait 0 true true 0 ∷ []

refuted_lowers : NamedRelease lowers 5 2 waits 5 → ⊥
unfolding computing
refuted_lowers law = omega (arith, (law.opens refl refl refl refl).1)

-- a release of a channel that holds none is E10 in Open too
abbrev always : Machine
always = wrong unchanged (λ pool cs n t. pick (eqb t.refusal 13) (record { refusal = 0; event = 10; channel = n; unit = t.unit; place = t.place; next = t.next }) t)

refuted_always : NamedRelease always 5 1 start 5 → ⊥
unfolding computing
refuted_always law =
    let e = law.refused refl refl refl refl in
    let z : ◌≡◌ {A = ℕ} 0 13 = cc in
    omega arith

-- an expected frame in Wait is accepted where the pool has room: the channel is opened first
abbrev wakes : Machine
wakes = record {
  frame = λ spacecraft pool cs octets. frame_turn spacecraft pool (records_after (release_turn spacecraft pool cs (named octets)) cs) octets;
  unit = unit_part;
  release = release_turn;
  word = word_writing;
}

refuted_wakes : Waiting wakes 5 1 waiting → ⊥
unfolding computing
refuted_wakes law = omega (arith, (law.stopped octets5 (tested octets5 refl) refl refl 0 refl refl).0)

-- A refused frame counts on the channel that it names, and is told as that channel's.
abbrev counted : Channel → Channel
counted c = become c.held (step_of E6 0 c.variables) c

abbrev counts : Machine
counts = wrong (λ pool cs n t. must (eqb t.refusal 0) (written (place_of n cs) (counted (record_of n cs)) t) t) unchanged

refuted_counts : Isolated counts 5 1 start → ⊥
unfolding computing
refuted_counts law = omega (arith, ap (λ (cs : List Channel). (record_of 3 cs).variables.counter) (law.refused bad3 (λ z. omega arith)))

abbrev told_its : Machine
told_its = wrong (λ pool cs n t. record { refusal = t.refusal; event = t.event; channel = n; unit = t.unit; place = t.place; next = t.next }) unchanged

refuted_told : Refusals told_its 5 1 start → ⊥
unfolding computing
refuted_told law =
    let e = law.frame_refused refl octets9 (tested octets9 refl) (λ z. omega arith) in
    let z : ◌≡◌ {A = ℕ} 3 0 = cc in
    omega arith

-- Room by the channel's own count, not the pool's: more is held than the pool has.
abbrev own_count : Machine
own_count = record {
  frame = λ spacecraft pool cs octets. frame_turn spacecraft (pool + (held_in cs - (record_of (named octets) cs).held)) cs octets;
  unit = unit_part;
  release = release_turn;
  word = word_writing;
}

refuted_own_count : Pooled own_count 5 1 held → ⊥
unfolding computing
refuted_own_count law = omega (arith, law.most (ad5 ∷ []) (omega arith))

-- While a channel waits no other is given a buffer: it reads more of the other channels than the room.
abbrev any_waits : List Channel → Bool
any_waits [] = false
any_waits (c ∷ cs) = c.variables.wait || any_waits cs

abbrev keeps_back : Machine
keeps_back = record {
  frame = λ spacecraft pool cs octets. frame_turn spacecraft (pick (any_waits cs) (held_in cs) pool) cs octets;
  unit = unit_part;
  release = release_turn;
  word = word_writing;
}

-- 3 holds one of two, and waits
abbrev holds_and_waits : List Channel
holds_and_waits = one 3 1 Wait 1 true true 0 ∷ one 5 0 Open 0 false false 0 ∷ []

refuted_keeps_back : Reads keeps_back 5 2 2 held holds_and_waits → ⊥
unfolding computing
refuted_keeps_back law =
    let e = (law.own ad5 (λ z. omega arith) (λ z. omega arith) (record { there = refl; own = refl }) refl).same in
    let z : ◌≡◌ {A = ℕ} 1 2 = cc in
    omega arith

-- The row of the channel's own record (specs/Rows).

-- nothing changes, but it is told as it was
abbrev stays : Change
stays pool cs n t = written (length cs) no_record t

-- a channel that holds none does not begin to wait where the others hold the whole pool
abbrev starved : Machine
starved = wrong (λ pool cs n t. pick (both (eqb t.event 2) (eqb (record_of n cs).held 0)) (stays pool cs n t) t) unchanged

refuted_starved : Rows starved 5 1 held → ⊥
unfolding computing
refuted_starved law = apart (ap (λ (c : Channel). c.variables.wait) (law.frame_next refl octets5 (tested octets5 refl) refl refl))

-- a channel in Wait that holds none discards BD units and controls too
abbrev deaf : Machine
deaf = wrong (λ pool cs n t. pick (both (not (not_wait (record_of n cs).variables.state)) (eqb (record_of n cs).held 0)) (stays pool cs n t) t) unchanged

-- 5 holds the one buffer, 3 waits and holds none
abbrev waits3 : List Channel
waits3 = one 3 0 Wait 0 true true 0 ∷ one 5 1 Open 1 false false 0 ∷ []

refuted_deaf : Rows deaf 5 1 waits3 → ⊥
unfolding computing
refuted_deaf law = apart (sym (ap (λ (c : Channel). c.variables.wait) (law.frame_next refl octets_unlock3 (tested octets_unlock3 refl) refl refl)))

-- the release that only opens Wait clears retransmit
abbrev cleared : Channel → Channel
cleared c = become c.held (record { state = c.variables.state; vr = c.variables.vr; lockout = false; wait = false; retransmit = false; counter = c.variables.counter }) c

abbrev resets : Machine
resets = wrong unchanged (λ pool cs n t. pick (both (eqb t.refusal 0) (eqb (record_of n cs).held 0)) (written t.place (cleared t.next) t) t)

refuted_resets : Rows resets 5 2 waits → ⊥
unfolding computing
refuted_resets law = apart (ap (λ (c : Channel). c.variables.retransmit) (law.release_next 5 refl))
