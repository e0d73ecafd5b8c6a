use Rattle.std.proofs.Common.{refl, subst, slice_range, sym, ◌∙◌, ◌+◌, ap, List, ℕ}
use Rattle.capture_reader.specs.BlockContents.{known_shown}
use Rattle.capture_reader.specs.Classic.{RefusesRecord}
use Rattle.capture_reader.specs.Readers.{ShowsAhead, rest_after}
use Rattle.capture_reader.proofs.AheadLemmas.{no_record, record_ahead}
use Rattle.capture_reader.proofs.reader.CaptureReader.next_record.Goals as goal

pub returns-in-Ok : goal.returns-in-Ok
returns-in-Ok c =
    let self = c.args.self.now in
    let n = c.args.ahead.now in
    let one = c.in-Ok.record in
    let is = rw c.rest_after-rest.ensures at c.in-Ok.ensures.ok in
    let long = rw c.rest_after-rest.ensures at c.in-Ok.ensures.within in
    let found = record_ahead self n c.args.heading one c.known-known.result c.requires.within c.requires.records long
    c.known-known.ensures is in
    let shown = c.shown.ensures
    ∙ ap (λ (b : List ℕ). known_shown c.known-known.result (slice_range b 16 (16 + one.kept)))
    c.rest_after-rest.ensures in
    (subst (ShowsAhead self n (n + (16 + one.kept))) (sym shown) found.0, found.1, found.2)

pub returns-in-Err : goal.returns-in-Err
returns-in-Err c =
    let self = c.args.self.now in
    let refused : RefusesRecord c.args.heading.order (rest_after self c.args.ahead.now) _ =
    rw c.rest_after-rest.ensures at c.in-Err.ensures.err in
    (no_record self c.args.heading (rest_after self c.args.ahead.now) _ c.requires.records refused, refl)
