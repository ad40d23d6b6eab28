-- By the data field's length: a command of one octet, of three, or none.
use mathlib.Core.Path.{sym, ap, ◌∙◌}
use mathlib.Core.Bool.{Bool}
use Prim.Native.Nat.{ℕ}
use native.Mathlib.Omega.{arith}
use borrow.Author.Tests.{eq-eqb, ne_eqb}
use lib.Dec.{eqb}
use Rattle.base.specs.Choice.{both}
use Rattle.frame.specs.Frame.{is_command, data_field}
use Rattle.frame_header.proofs.Octets.{o}
use Rattle.frame.proofs.Octets.{command_one, command_three, command_other}
use Rattle.frame.proofs.Frame.is_command.Goals as goal

pub returns-in-8 : goal.returns-in-8
returns-in-8 c =
    let s = c.args.self.octets.now in
    sym (command_one s (omega arith)) ∙ ap (λ (n : ℕ). is_command (data_field s n)) (sym c.in-8.is)

pub returns-in_default : goal.returns-in_default
returns-in_default c = sym (command_other c.args.self.octets.now c.args.self.n c.args.self.within.0 c.args.self.within.1 (λ e. omega (arith, c.in_default)) (λ e. omega (arith, c.in_default)))

pub returns-then-self : goal.returns-then-self
returns-then-self c =
    let s = c.args.self.octets.now in
    sym (command_three s (omega arith) ∙ ap (λ (b : Bool). both b (eqb (o s 6) 0)) (eq-eqb (o s 5) 0x82 c.if-self.true)) ∙ ap (λ (n : ℕ). is_command (data_field s n)) (sym c.in-10.is)

pub returns-else-self : goal.returns-else-self
returns-else-self c =
    let s = c.args.self.octets.now in
    let no = ne_eqb (o s 5) 0x82 c.if-self.false in
    no ∙ sym (command_three s (omega arith) ∙ ap (λ (b : Bool). both b (eqb (o s 6) 0)) no) ∙ ap (λ (n : ℕ). is_command (data_field s n)) (sym c.in-10.is)
