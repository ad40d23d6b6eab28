-- A test of every kind of control word, computed: a `Seen` is eight tests, so there are 256 of them, and a test that passes at all of them
-- passes at any.
use mathlib.Core.Path.{◌≡◌}
use mathlib.Core.Bool.{Bool, true, false, ◌&&◌, false≢true}
use lib.Dec.{T}
use Rattle.fop.specs.Events.{Seen}
use Rattle.fop.proofs.Choices.{and_l, and_r}

abbrev pub implies : Bool → Bool → Bool
implies true b = b
implies false b = true

pub implied : (a b : Bool) → T (implies a b) → a ≡ true → T b
implied true b t e = t
implied false b t e = absurd (false≢true e)

-- every Seen, by its eight tests
abbrev every : (Bool → Bool) → Bool
every t = t true && t false

every_at_lem : (t : Bool → Bool) (b : Bool) → T (every t) → T (t b)
every_at_lem t true h = and_l (t true) _ h
every_at_lem t false h = and_r (t true) _ h

abbrev made : Bool → Bool → Bool → Bool → Bool → Bool → Bool → Bool → Seen
made a b c d e f g h = record { lockout = a; retransmit = b; wait = c; invalid = d; all = e; new = f; once = g; short = h }

abbrev pub every_seen : (Seen → Bool) → Bool
every_seen t =
    every (λ a. every (λ b. every (λ c. every (λ d. every (λ e. every (λ f. every (λ g. every (λ h. t (made a b c d e f g h)))))))))

pub seen_at : (t : Seen → Bool) (x : Seen) → T (every_seen t) → T (t x)
seen_at t x h =
    every_at_lem (λ s. t (made x.lockout x.retransmit x.wait x.invalid x.all x.new x.once s)) x.short
    (every_at_lem (λ g. every (λ s. t (made x.lockout x.retransmit x.wait x.invalid x.all x.new g s))) x.once
    (every_at_lem (λ f. every (λ g. every (λ s. t (made x.lockout x.retransmit x.wait x.invalid x.all f g s)))) x.new
    (every_at_lem (λ e. every (λ f. every (λ g. every (λ s. t (made x.lockout x.retransmit x.wait x.invalid e f g s))))) x.all
    (every_at_lem (λ d. every (λ e. every (λ f. every (λ g. every (λ s. t (made x.lockout x.retransmit x.wait d e f g s)))))) x.invalid
    (every_at_lem (λ c. every (λ d. every (λ e. every (λ f. every (λ g. every (λ s. t (made x.lockout x.retransmit c d e f g s))))))) x.wait
    (every_at_lem (λ b. every (λ c. every (λ d. every (λ e. every (λ f. every (λ g. every (λ s. t (made x.lockout b c d e f g s)))))))) x.retransmit
    (every_at_lem (λ a. every (λ b. every (λ c. every (λ d. every (λ e. every (λ f. every (λ g. every (λ s. t (made a b c d e f g s))))))))) x.lockout h)))))))
