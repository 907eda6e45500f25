use Rattle.insert.proofs.+full_run.Given as goal

abbrev pub decreases-full_run : goal.decreases-full_run
decreases-full_run l = l.n
