use Rattle.search_task.proofs.OfIndex.{answer_is, last_is, search_fits, search_measures}
use Rattle.search_task.proofs.Openings.{limit_is_high}
use Rattle.search_task.proofs.index_laws.index_law.Goals as goal

pub returns-clause-searches : goal.returns-clause-searches
returns-clause-searches c a ix question index fits =
    record { question = question; index = index; fits = fits }

pub returns-clause-fits : goal.returns-clause-fits
returns-clause-fits c a ix workers queues searched some_worker some_queue =
    search_fits a ix workers queues searched some_worker some_queue

pub returns-clause-measures : goal.returns-clause-measures
returns-clause-measures c a ix workers queues = search_measures a ix workers queues

pub returns-clause-last : goal.returns-clause-last
returns-clause-last c a ix workers queues question = last_is a ix workers queues question

pub returns-clause-answer : goal.returns-clause-answer
returns-clause-answer c a ix workers queues = answer_is a ix workers queues

pub returns-clause-limit : goal.returns-clause-limit
returns-clause-limit c a ix workers queues searched = limit_is_high a ix workers queues searched
