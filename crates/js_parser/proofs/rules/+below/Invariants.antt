use Rattle.js_parser.proofs.rules.+below.Given as goal

abbrev pub decreases-below : goal.decreases-below
decreases-below l = l.room
