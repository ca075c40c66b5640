-- What the worker goes by is what it was answered, but a limit that it aims with may be lower.
use Rattle.search_machine.specs.declared.calls.Reply.TheVariants.{Seen}
use Rattle.query_core.proofs.worker.Worker.act.Goals as goal

pub returns-in-Claim : goal.returns-in-Claim
returns-in-Claim g c = (c.claim.result, c.claim.ensures)

pub returns-in-Look : goal.returns-in-Look
returns-in-Look g c = (c.look.result, c.look.ensures)

pub returns-in-Give : goal.returns-in-Give
returns-in-Give g c = (c.give.result, c.give.ensures)

pub returns-in-Late : goal.returns-in-Late
returns-in-Late g c = (c.scan_late.result, c.scan_late.ensures)

pub returns-in-Pop : goal.returns-in-Pop
returns-in-Pop g c = (c.pop.result, c.pop.ensures)

pub returns-in-Offer : goal.returns-in-Offer
returns-in-Offer g c = (c.offer.result, c.offer.ensures)

pub returns-in-Aim : goal.returns-in-Aim
returns-in-Aim g c = (Seen c.aim.ensures.0, c.aim.ensures.1)
