-- Each path through a reader is one of descent's rules, and the state at each call is fit and has fewer tokens left, or the call comes
-- later in the order of those that pass none. The invariant of the loop over a chain of calls says that what the calls from here on give, the
-- whole chain gives, and that x is the token here. Assumes nothing.
use native.Mathlib.Omega.{arith}
use Rattle.lexer.specs.declared.tokens.TokenKind.TheVariants as K
use Rattle.steps.specs.CursorsLaws.{raised}
use Rattle.reader.proofs.ParserPaths as L
use Rattle.reader.proofs.parser.+arguments_atom_call_calls_expression_more_read_bracket_read_lambda_read_let.Goals as goal

pub arguments-returns-in_err-a-in_default : goal.arguments-returns-in_err-a-in_default
arguments-returns-in_err-a-in_default t c =
    rw (raised _ c.from_residual.ensures.1)
    (L.arguments-first-refused _ _ _ _ _ _ _ _ _ _ _ _ c.in_err-a-in_default.ensures _ c.token-x.ensures c.in_default.not-Shut)

pub arguments-first_given-given-requires : goal.arguments-first_given-given-requires
arguments-first_given-given-requires t c =
    let fit = (L.argument-fit _ _ _ _ _ _ _ _ c.requires).fit in
    omega (arith, L.root-few _ _ _ _ _ _ _ _ _ _ c.in_ok-a-in_default.ensures fit)

pub arguments-more-requires : goal.arguments-more-requires
arguments-more-requires t c = (
  omega (arith, c.decreases, L.read-less _ _ _ _ _ _ _ _ _ _ c.in_ok-a-in_default.ensures),
  L.first-fit _ _ _ _ _ _ _ _ _ _ _ _ c.in_ok-a-in_default.ensures _ c.first_given-given.ensures c.requires,
)

pub arguments-returns-in-Shut : goal.arguments-returns-in-Shut
arguments-returns-in-Shut t c = L.arguments-none _ _ _ _ _ _ _ _ _ _ _ _ c.token-x.ensures c.in-Shut.is c.read_shut.ensures.wrote c.read_shut.ensures.kept c.requires

pub arguments-returns-in_ok-a-in_default : goal.arguments-returns-in_ok-a-in_default
arguments-returns-in_ok-a-in_default t c =
    L.arguments-first _ _ _ _ _ _ _ _ _ _ _ _ c.in_ok-a-in_default.ensures _ c.first_given-given.ensures _ c.token-x.ensures c.in_default.not-Shut c.more.ensures

pub atom-returns-in-Word : goal.atom-returns-in-Word
atom-returns-in-Word t c = L.atom-name _ _ _ _ _ _ _ _ _ c.requires.next _ _ _ c.in-Word.is c.read_name.ensures.leaves c.read_name.ensures.kept c.requires.ready

pub atom-returns-in-Number : goal.atom-returns-in-Number
atom-returns-in-Number t c = L.atom-number _ _ _ _ _ _ _ _ _ c.requires.next _ _ _ c.in-Number.is c.read_number.ensures.wrote c.read_number.ensures.kept c.requires.ready

pub atom-returns-in_default : goal.atom-returns-in_default
atom-returns-in_default t c =
    L.atom-refused _ _ _ _ _ _ _ _ _ c.requires.next _ c.requires.no-let c.requires.no-lambda c.in_default.not-Open c.in_default.not-Word
    c.in_default.not-Number c.refused.ensures

pub call-returns-in_err-h : goal.call-returns-in_err-h
call-returns-in_err-h t c = rw (raised _ c.from_residual.ensures.1) (L.call-head-refused _ _ _ _ _ _ _ c.requires _ c.in_err-h.ensures.comes)

pub call-overflow_cast-k : goal.call-overflow_cast-k
call-overflow_cast-k t c = omega (arith, (L.call-fit _ _ _ _ _ _ _ c.requires _ c.in_ok-h.ensures.comes c.in_ok-h.ensures.kept).fit.own.kind)

pub call-arguments-requires : goal.call-arguments-requires
call-arguments-requires t c = (
  omega (arith, c.decreases, L.call-less _ _ _ _ _ _ _ c.requires _ c.in_ok-h.ensures.comes c.in_ok-h.ensures.kept),
  L.call-fit _ _ _ _ _ _ _ c.requires _ c.in_ok-h.ensures.comes c.in_ok-h.ensures.kept,
)

pub call-returns : goal.call-returns
call-returns t c = L.call-read _ _ _ _ _ _ _ c.requires _ c.in_ok-h.ensures.comes c.in_ok-h.ensures.kept c.arguments.ensures

pub calls-returns-in_default : goal.calls-returns-in_default
calls-returns-in_default t c = L.chain-over _ _ _ _ _ _ _ _ _ _ _ c.loop-records.invariant c.token-x.ensures c.in_default.not-Dot

pub more-returns-in_err-h-in-Comma : goal.more-returns-in_err-h-in-Comma
more-returns-in_err-h-in-Comma t c =
    rw (raised _ c.from_residual.ensures.1)
    (L.comma-refused _ _ _ _ _ _ _ _ _ _ c.token-x.ensures c.in-Comma.is c.at_comma.ensures _ c.in_err-h-in-Comma.ensures)

pub more-expression-requires : goal.more-expression-requires
more-expression-requires t c = (
  omega (arith, c.decreases, L.comma-less _ _ _ _ _ _ c.token-x.ensures c.in-Comma.is c.at_comma.ensures c.in_ok-h-in-Comma.ensures c.requires.clear),
  L.comma-fit _ _ _ _ _ _ _ _ _ _ c.token-x.ensures c.in-Comma.is c.at_comma.ensures _ c.in_ok-h-in-Comma.ensures c.requires.clear c.requires,
)

pub more-returns-in_err-a-in-Comma : goal.more-returns-in_err-a-in-Comma
more-returns-in_err-a-in-Comma t c =
    rw (raised _ c.from_residual-in_err-a-in-Comma.ensures.1)
    (L.more-next-refused _ _ _ _ _ _ _ _ _ _ c.token-x.ensures c.in-Comma.is c.at_comma.ensures _ c.in_ok-h-in-Comma.ensures c.requires.clear _ _ _ _
    c.in_err-a-in-Comma.ensures)

pub more-more-requires : goal.more-more-requires
more-more-requires t c = (
  omega (
    arith,
    c.decreases,
    L.comma-less _ _ _ _ _ _ c.token-x.ensures c.in-Comma.is c.at_comma.ensures c.in_ok-h-in-Comma.ensures c.requires.clear,
    L.read-less _ _ _ _ _ _ _ _ _ _ c.in_ok-a-in-Comma.ensures,
  ),
  L.next-fit _ _ _ _ _ _ _ _ _ _ c.token-x.ensures c.in-Comma.is c.at_comma.ensures _ c.in_ok-h-in-Comma.ensures c.requires.clear _ _ _ _
      c.in_ok-a-in-Comma.ensures _ c.next_given.ensures c.requires,
)

pub more-returns-in-Shut : goal.more-returns-in-Shut
more-returns-in-Shut t c = L.more-last _ _ _ _ _ _ _ _ _ _ _ _ c.token-x.ensures c.in-Shut.is c.read_shut.ensures.wrote c.read_shut.ensures.kept c.requires

pub more-returns-in_ok-a-in-Comma : goal.more-returns-in_ok-a-in-Comma
more-returns-in_ok-a-in-Comma t c =
    L.more-next _ _ _ _ _ _ _ _ _ _ c.token-x.ensures c.in-Comma.is c.at_comma.ensures _ c.in_ok-h-in-Comma.ensures c.requires.clear _ _ _ _
    c.in_ok-a-in-Comma.ensures _ c.next_given.ensures c.more.ensures

pub more-returns-in_default : goal.more-returns-in_default
more-returns-in_default t c = L.more-refused _ _ _ _ _ _ _ _ _ _ c.token-x.ensures c.in_default.not-Shut c.in_default.not-Comma c.refused.ensures

pub read_bracket-returns-in_err-h : goal.read_bracket-returns-in_err-h
read_bracket-returns-in_err-h t c =
    rw (raised _ c.from_residual.ensures.1) (L.bracket-refused _ _ _ _ _ _ _ _ _ c.requires c.at_bracket.ensures _ c.in_err-h.ensures)

pub read_bracket-expression-requires : goal.read_bracket-expression-requires
read_bracket-expression-requires t c = (
  omega (arith, c.decreases, L.bracket-less _ _ _ _ _ _ _ _ _ c.requires c.at_bracket.ensures _ c.in_ok-h.ensures),
  L.bracket-fit _ _ _ _ _ _ _ _ _ c.requires c.at_bracket.ensures _ c.in_ok-h.ensures,
)

pub read_bracket-returns-in_err-e : goal.read_bracket-returns-in_err-e
read_bracket-returns-in_err-e t c =
    rw (raised _ c.from_residual-in_err-e.ensures.1)
    (L.bracketed-refused _ _ _ _ _ _ _ _ _ c.requires c.at_bracket.ensures _ c.in_ok-h.ensures _ _ _ _ c.in_err-e.ensures)

pub read_bracket-returns : goal.read_bracket-returns
read_bracket-returns t c =
    L.bracket-read _ _ _ _ _ _ _ _ _ c.requires c.at_bracket.ensures _ c.in_ok-h.ensures _ _ _ _ c.in_ok-e.ensures _ c.need.ensures.comes c.need.ensures.kept

pub read_lambda-returns-in_err-h : goal.read_lambda-returns-in_err-h
read_lambda-returns-in_err-h t c =
    rw (raised _ c.from_residual.ensures.1) (L.lambda-head-refused _ _ _ _ _ _ _ _ c.requires _ (c.in_err-h.ensures.comes _ _ c.lambdas_in-level.ensures))

pub read_lambda-enter-requires : goal.read_lambda-enter-requires
read_lambda-enter-requires t c = L.lambda-deep _ _ _ _ _ _ _ _ c.requires _ (c.in_ok-h.ensures.comes _ _ c.lambdas_in-level.ensures) c.in_ok-h.ensures.kept

pub read_lambda-expression-requires : goal.read_lambda-expression-requires
read_lambda-expression-requires t c = (
  omega (arith, c.decreases, L.lambda-less _ _ _ _ _ _ _ _ c.requires _ (c.in_ok-h.ensures.comes _ _ c.lambdas_in-level.ensures) c.in_ok-h.ensures.kept),
  L.lambda-fit _ _ _ _ _ _ _ _ c.requires _ (c.in_ok-h.ensures.comes _ _ c.lambdas_in-level.ensures) c.in_ok-h.ensures.kept _ c.enter.ensures,
)

pub read_lambda-returns-in_err-r : goal.read_lambda-returns-in_err-r
read_lambda-returns-in_err-r t c =
    rw (raised _ c.from_residual-in_err-r.ensures.1)
    (L.lambda-body-refused _ _ _ _ _ _ _ _ c.requires _ (c.in_ok-h.ensures.comes _ _ c.lambdas_in-level.ensures) c.in_ok-h.ensures.kept _ c.enter.ensures _ _ _ _
    c.in_err-r.ensures)

pub read_lambda-overflow_add-record : goal.read_lambda-overflow_add-record
read_lambda-overflow_add-record t c =
    omega (
      arith,
      L.lambda-root _ _ _ _ _ _ _ _ c.requires _ (c.in_ok-h.ensures.comes _ _ c.lambdas_in-level.ensures) c.in_ok-h.ensures.kept _ c.enter.ensures _ _ _ _ c.in_ok-r.ensures,
    )

pub read_lambda-put-requires : goal.read_lambda-put-requires
read_lambda-put-requires t c =
    L.lambda-room _ _ _ _ _ _ _ _ c.requires _ (c.in_ok-h.ensures.comes _ _ c.lambdas_in-level.ensures) c.in_ok-h.ensures.kept _ c.enter.ensures _ _ _ _ c.in_ok-r.ensures

pub read_lambda-returns : goal.read_lambda-returns
read_lambda-returns t c =
    L.lambda-read _ _ _ _ _ _ _ _ c.requires _ (c.in_ok-h.ensures.comes _ _ c.lambdas_in-level.ensures) c.in_ok-h.ensures.kept _ c.enter.ensures _ _ _ _ c.in_ok-r.ensures
    _ c.lambdas_in-level.ensures c.put.ensures

pub read_let-returns-in_err-h : goal.read_let-returns-in_err-h
read_let-returns-in_err-h t c = rw (raised _ c.from_residual.ensures.1) (L.let-head-refused _ _ _ _ _ _ _ _ c.requires _ c.in_err-h.ensures.comes)

pub read_let-expression-requires : goal.read_let-expression-requires
read_let-expression-requires t c = (
  omega (arith, c.decreases, L.let-less _ _ _ _ _ _ _ _ c.requires _ c.in_ok-h.ensures.comes c.in_ok-h.ensures.kept),
  L.let-value-fit _ _ _ _ _ _ _ _ c.requires _ c.in_ok-h.ensures.comes c.in_ok-h.ensures.kept,
)

pub read_let-returns-in_err-v : goal.read_let-returns-in_err-v
read_let-returns-in_err-v t c =
    rw (raised _ c.from_residual-in_err-v.ensures.1)
    (L.let-value-refused _ _ _ _ _ _ _ _ c.requires _ c.in_ok-h.ensures.comes c.in_ok-h.ensures.kept _ _ _ _ c.in_err-v.ensures)

pub read_let-returns-in_err-b : goal.read_let-returns-in_err-b
read_let-returns-in_err-b t c =
    rw (raised _ c.from_residual-in_err-b.ensures.1)
    (L.let-in-refused _ _ _ _ _ _ _ _ c.requires _ c.in_ok-h.ensures.comes c.in_ok-h.ensures.kept _ _ _ _ c.in_ok-v.ensures _ c.in_err-b.ensures.comes)

pub read_let-enter-requires : goal.read_let-enter-requires
read_let-enter-requires t c = L.let-deep _ _ _ _ _ _ _ _ c.requires _ c.in_ok-h.ensures.comes c.in_ok-h.ensures.kept

pub read_let-expression-requires-2 : goal.read_let-expression-requires-2
read_let-expression-requires-2 t c = (
  omega (
    arith,
    c.decreases,
    L.let-less _ _ _ _ _ _ _ _ c.requires _ c.in_ok-h.ensures.comes c.in_ok-h.ensures.kept,
    L.read-less _ _ _ _ _ _ _ _ _ _ c.in_ok-v.ensures,
    L.need-less _ K.In _ _ (omega arith) c.in_ok-b.ensures.comes c.in_ok-b.ensures.kept c.in_ok-v.ensures.clear,
  ),
  L.let-body-fit _ _ _ _ _ _ _ _ c.requires _ c.in_ok-h.ensures.comes c.in_ok-h.ensures.kept _ _ _ _ c.in_ok-v.ensures _ c.in_ok-b.ensures.comes c.in_ok-b.ensures.kept _ c.enter.ensures,
)

pub read_let-returns-in_err-r : goal.read_let-returns-in_err-r
read_let-returns-in_err-r t c =
    rw (raised _ c.from_residual-in_err-r.ensures.1)
    (L.let-body-refused _ _ _ _ _ _ _ _ c.requires _ c.in_ok-h.ensures.comes c.in_ok-h.ensures.kept _ _ _ _ c.in_ok-v.ensures _ c.in_ok-b.ensures.comes c.in_ok-b.ensures.kept _ c.enter.ensures _ _ _ _
    c.in_err-r.ensures)

pub read_let-mark-requires : goal.read_let-mark-requires
read_let-mark-requires t c = (
  L.let-place _ _ _ _ _ _ _ _ c.requires _ c.in_ok-h.ensures.comes c.in_ok-h.ensures.kept,
  omega (
    arith,
    L.let-root _ _ _ _ _ _ _ _ c.requires _ c.in_ok-h.ensures.comes c.in_ok-h.ensures.kept _ _ _ _ c.in_ok-v.ensures _ c.in_ok-b.ensures.comes c.in_ok-b.ensures.kept _ c.enter.ensures _ _ _ _
        c.in_ok-r.ensures,
  ),
)

pub read_let-returns : goal.read_let-returns
read_let-returns t c =
    L.let-read _ _ _ _ _ _ _ _ c.requires _ c.in_ok-h.ensures.comes c.in_ok-h.ensures.kept _ _ _ _ c.in_ok-v.ensures _ c.in_ok-b.ensures.comes c.in_ok-b.ensures.kept _ c.enter.ensures _ _ _ _
    c.in_ok-r.ensures _ c.mark.ensures
