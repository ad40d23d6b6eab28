-- The need is the definition's product.
use Rattle.store.proofs.Need.{larger_max}
use Rattle.store.proofs.store_need.Goals as goal

pub returns : goal.returns
returns c = simp (c.from-2.ensures, c.max-most.ensures, c.from.ensures, larger_max)
