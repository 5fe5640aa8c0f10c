use Rattle.pool_workers.proofs.totals.collect.Goals as goal

pub returns-in-Some-clause-amount : goal.returns-in-Some-clause-amount
returns-in-Some-clause-amount g c none whole = let k = c.sum_up.ensures.amount none whole in (c.in-Some.ended, c.in-Some.is, k.0, k.1)
