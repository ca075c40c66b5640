use Rattle.best_word.proofs.number.BestWord.begin.Given as goal

abbrev pub ghosts-deal : goal.ghosts-deal
ghosts-deal g a = record { told = g.T.Floor.floor a.task.now }
