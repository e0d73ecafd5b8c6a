use Rattle.std.proofs.Common.{rules, of_calls, nat_le}
use Rattle.std.proofs.lemmas.Result.{IfOk-weaker, IfErr-weaker}
use Rattle.etherparse.proofs.tests.defrag.pool.run_with_limits.Goals as goal

pub returns-clause-answers : goal.returns-clause-answers
returns-clause-answers c =
    IfOk-weaker c.run_calls.result _ _
    (λ run stated. stated nat_le (λ value timestamp answer met. search (rules, of_calls))) c.run_calls.ensures.answers

pub returns-clause-holds : goal.returns-clause-holds
returns-clause-holds c =
    IfOk-weaker c.run_calls.result _ _
    (λ run stated. stated nat_le (λ value timestamp answer met. search (rules, of_calls))) c.run_calls.ensures.holds

pub returns-clause-cuts : goal.returns-clause-cuts
returns-clause-cuts c =
    IfOk-weaker c.run_calls.result _ _
    (λ run stated. stated nat_le (λ value timestamp answer met. search (rules, of_calls))) c.run_calls.ensures.cuts

pub returns-clause-stopped : goal.returns-clause-stopped
returns-clause-stopped c =
    IfErr-weaker c.run_calls.result _ _
    (λ stop stated not_first. stated not_first nat_le (λ value timestamp answer met. search (rules, of_calls)))
    c.run_calls.ensures.stopped
