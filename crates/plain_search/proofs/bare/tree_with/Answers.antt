-- What fits fits by its tree alone.
use Rattle.plain_search.proofs.bare.tree_with.Goals as goal

pub returns-else-tables : goal.returns-else-tables
returns-else-tables c = c.without_tables.ensures.fits c.args.rows.now c.args.settings.now.layout c.requires.tree
