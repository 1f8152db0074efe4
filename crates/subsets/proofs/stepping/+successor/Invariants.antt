use Rattle.subsets.proofs.stepping.+successor.Given as goal

abbrev pub decreases-successor : goal.decreases-successor
decreases-successor l = l.k
