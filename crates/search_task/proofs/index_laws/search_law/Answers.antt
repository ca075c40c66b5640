use Rattle.search_task.proofs.index_laws.search_law.Goals as goal

pub returns-clause-searches : goal.returns-clause-searches
returns-clause-searches g c =
    c.index_law.ensures.searches c.args.task.now c.args.index.now c.k-k.ensures.question
    c.leaf_count-leaves.ensures.is_index c.requires.fits

pub returns-clause-fits : goal.returns-clause-fits
returns-clause-fits g c = λ workers queues some_worker some_queue.
    c.index_law.ensures.fits c.args.task.now c.args.index.now workers queues
    (returns-clause-searches g c) some_worker some_queue

pub returns-clause-last : goal.returns-clause-last
returns-clause-last g c = λ workers queues.
    c.index_law.ensures.last c.args.task.now c.args.index.now workers queues c.k-k.ensures.question

pub returns-clause-answer : goal.returns-clause-answer
returns-clause-answer g c = λ workers queues.
    c.index_law.ensures.answer c.args.task.now c.args.index.now workers queues

pub returns-clause-limit : goal.returns-clause-limit
returns-clause-limit g c = λ workers queues.
    c.index_law.ensures.limit c.args.task.now c.args.index.now workers queues (returns-clause-searches g c)
