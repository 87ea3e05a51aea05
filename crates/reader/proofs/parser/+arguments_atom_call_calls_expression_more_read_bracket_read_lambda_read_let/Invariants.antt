-- Each path through a reader is one of descent's rules, and the state at each call is fit and has fewer tokens left, or the call comes
-- later in the order of those that pass none. The invariant of the loop over a chain of calls says that what the calls from here on give, the
-- whole chain gives, and that x is the token here. Assumes nothing.
use Rattle.reader.specs.Parsing.{measure}
use Rattle.reader.proofs.ParserPaths as L
use Rattle.reader.proofs.parser.+arguments_atom_call_calls_expression_more_read_bracket_read_lambda_read_let.Given as goal

abbrev pub decreases-arguments : goal.decreases-arguments
decreases-arguments l = measure 3 l.text.now l.c

abbrev pub decreases-atom : goal.decreases-atom
decreases-atom l = measure 1 l.text.now l.c

abbrev pub decreases-call : goal.decreases-call
decreases-call l = measure 0 l.text.now l.c

abbrev pub decreases-calls : goal.decreases-calls
decreases-calls l = measure 1 l.text.now l.c

abbrev pub decreases-expression : goal.decreases-expression
decreases-expression l = measure 2 l.text.now l.c

abbrev pub decreases-more : goal.decreases-more
decreases-more l = measure 0 l.text.now l.c

abbrev pub decreases-read_bracket : goal.decreases-read_bracket
decreases-read_bracket l = measure 0 l.text.now l.c

abbrev pub decreases-read_lambda : goal.decreases-read_lambda
decreases-read_lambda l = measure 0 l.text.now l.c

abbrev pub decreases-read_let : goal.decreases-read_let
decreases-read_let l = measure 0 l.text.now l.c

abbrev pub invariant-calls-loop-records : goal.invariant-calls-loop-records
invariant-calls-loop-records l =
    L.Chain l.text l.marks l.depth l.initial.a l.initial.records l.initial.places l.initial.scope l.a l.records l.places l.scope

abbrev pub decreases-calls-loop-records : goal.decreases-calls-loop-records
decreases-calls-loop-records l = measure 0 l.text l.a
