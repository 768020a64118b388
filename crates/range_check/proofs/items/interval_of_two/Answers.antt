use Rattle.range_check.proofs.items.interval_of_two.Goals as goal

pub returns-in_default-number_of : goal.returns-in_default-number_of
returns-in_default-number_of c = λ interval p. c.in_default-number_of.ensures interval.high p.high
