-- Each return is one kind, by the flags and, for a command, its length.
use borrow.Author.Rules.{rules}
use mathlib.Core.Path.{sym}
use Rattle.frame.proofs.Accepted.{kind_unlock, kind_set, kind_bd, kind_ad}
use Rattle.frame.proofs.Frame.kind.Goals as goal

pub returns-then-self-eq8 : goal.returns-then-self-eq8
returns-then-self-eq8 c = sym (kind_unlock _ _ (λ i. search rules) c.args.self.within.0 c.args.self.within.1 c.requires.0 c.requires.1 c.if-first-eq1.true c.if-self-eq8.true)

pub returns-else-self-eq8 : goal.returns-else-self-eq8
returns-else-self-eq8 c = sym (kind_set _ _ (λ i. search rules) c.args.self.within.0 c.args.self.within.1 c.requires.0 c.requires.1 c.if-first-eq1.true c.if-self-eq8.false).1

pub returns-then-first-eq1-2 : goal.returns-then-first-eq1-2
returns-then-first-eq1-2 c = sym (kind_bd _ _ (λ i. search rules) c.args.self.within.0 c.args.self.within.1 c.requires.0 c.requires.1 c.if-first-eq1.false c.if-first-eq1-2.true)

pub returns : goal.returns
returns c = sym (kind_ad _ _ (λ i. search rules) c.args.self.within.0 c.args.self.within.1 c.requires.0 c.requires.1 c.if-first-eq1.false c.if-first-eq1-2.false)
