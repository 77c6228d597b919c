use Rattle.al_phrases.proofs.levels.+inner.Given as goal

abbrev pub decreases-inner : goal.decreases-inner
decreases-inner l = l.depth
