use Rattle.std.proofs.Common.{◌≡◌, ◌≢◌, ℕ, ◌+◌, [], ◌∷◌, ◌++◌, take, get_or, Err, sym, ap, ◌∙◌, arith, rules}
use Rattle.std.proofs.lemmas.List.{take_more, get_or_default}
use Rattle.std.proofs.lemmas.List.Elements.{All-same}
use Rattle.ep_defrag.specs.declared.ip_defrag_error.IpDefragError.TheVariants.{AllocationFailure}
use Rattle.ep_defrag.specs.Runs.{accepted_after, answers_after}
use Rattle.ep_defrag.proofs.RunLemmas.{answers_no_memory, accepted_after-push, answers_after-push}
use Rattle.ep_defrag.proofs.run.add_all.Goals as goal

pub loop-at-preserved : goal.loop-at-preserved
loop-at-preserved c =
    let fragments = c.args.fragments.now in
    let at = c.loop-at.at in
    let sofar = take at fragments in
    let next = c.index-fragments-at.result in
    let answer = c.in-Ok-answer_next.answer in
    let known = c.loop-at.invariant in
    let more : take (at + 1) fragments ≡ sofar ++ next ∷ [] =
    take_more fragments at next (omega arith)
    ∙ ap (λ fragment. sofar ++ fragment ∷ []) (sym c.index-fragments-at.is) in
    let pushed : c.push.new.self.items ≡ c.loop-at.answers.items ++ answer ∷ [] =
    rw c.unwrap.ensures at c.push.ensures.items in
    record {
      holds = rw (more, accepted_after-push [] sofar next)
          (c.in-Ok-answer_next.ensures.holds (accepted_after [] sofar) known.holds);
      answered =
          pushed
          ∙ ap (λ answers. answers ++ answer ∷ []) known.answered
          ∙ ap (λ last. answers_after [] sofar ++ last ∷ [])
          (c.in-Ok-answer_next.ensures.answer (accepted_after [] sofar) known.holds)
          ∙ sym (answers_after-push [] sofar next)
          ∙ ap (answers_after []) (sym more);
      counted = search rules;
      capacity = search rules;
      number = search rules;
    }

pub returns-clause-no_memory : goal.returns-clause-no_memory
returns-clause-no_memory c =
    All-same (λ answer. (len : ℕ) → answer ≢ Err (AllocationFailure len)) _ _ c.loop-at.invariant.answered
    (answers_no_memory [] (take c.loop-at.at c.args.fragments.now))

pub returns-in_default-answer_next-clause-stopped : goal.returns-in_default-answer_next-clause-stopped
returns-in_default-answer_next-clause-stopped c above default =
    let fragments = c.args.fragments.now in
    let at = c.loop-at.at in
    let next = c.index-fragments-at.result in
    let same : get_or fragments at default ≡ next =
    get_or_default fragments at default next (omega arith) ∙ sym c.index-fragments-at.is in
    rw same (c.in_default-answer_next.ensures.memory (accepted_after [] (take at fragments)) c.loop-at.invariant.holds)

pub returns-in_default-answer_next-clause-within : goal.returns-in_default-answer_next-clause-within
returns-in_default-answer_next-clause-within c = c.loop-at-test.true
