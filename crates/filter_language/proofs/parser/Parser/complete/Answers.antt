use Rattle.std.proofs.Common.{None, Some, ap, subst}
use Rattle.filter_language.specs.declared.change.Change.TheVariants as change
use Rattle.filter_language.specs.declared.change.Completion.{Completion}
use Rattle.filter_language.specs.Changes.{IsAptIn, settled_by}
use Rattle.filter_language.specs.Parsing.{state_of}
use Rattle.filter_language.specs.States.{completed}
use Rattle.filter_language.specs.Trees.{test}
use Rattle.filter_language.proofs.AcceptLemmas.{appended_frames, completed_parser}
use Rattle.filter_language.proofs.parser.Parser.complete.Goals as goal
use Rattle.filter_language.proofs.parser.Parser.complete.Goals.{in-Bare+in_ok-append-in-Bare, in-InForce+in_ok-append-in-InForce, in-Value+in_ok-append-in-Value}

pub returns-clause-ok : goal.returns-clause-ok
returns-clause-ok c = λ frames shown apt.
    let old = c.args.self.now in
    elim c.match-completion.branch [
      | in-Bare+in_ok-append-in-Bare w ↦
          let within = subst (λ (k : Completion). IsAptIn old.mode (change.Complete k)) w.in-Bare.is apt in
          let p = w.in-Bare.primitive in
          completed_parser c.match-completion.self w.append.new.self old.mode None old.only_values
          (completed frames (test p)) (settled_by (state_of old frames) c.args.completion) w.self-is
          (ap (λ (k : Completion). settled_by (state_of old frames) k) w.in-Bare.is)
          (appended_frames old.stack w.append.new.self old.mode frames p shown.0 shown.1 within
          w.in_ok-append-in-Bare.ensures.ok)
      | in-InForce+in_ok-append-in-InForce w ↦
          let within = subst (λ (k : Completion). IsAptIn old.mode (change.Complete k)) w.in-InForce.is apt in
          let p = w.in-InForce.primitive in
          completed_parser c.match-completion.self w.append-in-InForce.new.self old.mode old.head old.only_values
          (completed frames (test p)) (settled_by (state_of old frames) c.args.completion) w.self-is
          (ap (λ (k : Completion). settled_by (state_of old frames) k) w.in-InForce.is)
          (appended_frames old.stack w.append-in-InForce.new.self old.mode frames p shown.0 shown.1 within
          w.in_ok-append-in-InForce.ensures.ok)
      | in-Value+in_ok-append-in-Value w ↦
          let within = subst (λ (k : Completion). IsAptIn old.mode (change.Complete k)) w.in-Value.is apt in
          let p = w.in-Value.primitive in
          completed_parser c.match-completion.self w.append-in-Value.new.self old.mode (Some w.in-Value.head)
          old.only_values (completed frames (test p)) (settled_by (state_of old frames) c.args.completion) w.self-is
          (ap (λ (k : Completion). settled_by (state_of old frames) k) w.in-Value.is)
          (appended_frames old.stack w.append-in-Value.new.self old.mode frames p shown.0 shown.1 within
          w.in_ok-append-in-Value.ensures.ok)
    ]
