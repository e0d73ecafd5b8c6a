use Rattle.std.proofs.Common.{rules, ◌≡◌, ◌∷◌, ◌++◌, [], map, ap, ◌∙◌, append_assoc}
use Rattle.std.proofs.lemmas.List.{map_push, append-nil, nil_from_length}
use Rattle.slice_bench.proofs.FileLemmas.{frames_after, no_frames}
use Rattle.slice_bench.proofs.files.frames_of.Goals as goal

pub returns-in_default-clause-cut : goal.returns-in_default-clause-cut
returns-in_default-clause-cut c = λ cut all holds.
    let left = c.frames.invariant.only all holds in
    no_frames c.frames.rest.now left.0 (search rules) c.in_default.ensures.none left.1

pub frames-preserved : goal.frames-preserved
frames-preserved c =
    let starts = c.in-Some.ensures.some in
    let frame = c.in-Some.frame.now in
    let taken = map (λ frame. frame.now) c.frames.frames.items in
    let pushed : map (λ frame. frame.now) c.push.new.self.items ≡ taken ++ frame ∷ [] =
    ap (map (λ frame. frame.now)) c.in-Ok.ensures.items
    ∙ map_push (λ frame. frame.now) c.frames.frames.items c.in-Some.frame in
    record {
      ok = λ more holds.
          rw (pushed, append_assoc taken (frame ∷ []) more)
          (c.frames.invariant.ok (frame ∷ more) (c.in-Some.after.now, starts, holds));
      only = λ all holds.
          let left = c.frames.invariant.only all holds in
          frames_after c.frames.rest.now frame c.in-Some.after.now left.0 starts left.1;
    }

pub returns-clause-ok : goal.returns-clause-ok
returns-clause-ok c =
    let none : c.frames.rest.now ≡ [] = nil_from_length c.frames.rest.now (search rules) in
    let holds = c.frames.invariant.ok [] none in
    rw append-nil at holds
