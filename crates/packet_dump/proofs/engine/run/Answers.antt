use Rattle.std.proofs.Common.{◌≡◌, [], true, rules, ap, drop, subst, sym, take, arith, ◌∙◌}
use Rattle.std.proofs.KnownBytes.{Consumes-kept, Consumes-nil}
use Rattle.std.proofs.lemmas.Grind.{common_steps}
use Rattle.line_io.specs.WatchedWords.{has_ended, inner_of}
use Rattle.line_io.proofs.ResultLemmas.{at_exit}
use Rattle.packet_dump.specs.Saves.{is_failed}
use Rattle.packet_dump.specs.Sessions.{ends_run}
use Rattle.packet_dump.specs.Summaries.{plain_of}
use Rattle.packet_dump.proofs.RunLemmas.{run_begins, run_begins_saved, run_flushed, run_lines}
use Rattle.packet_dump.proofs.RunLemmas.{run_new, run_prefix, run_taken, run_written, sound_new}
use Rattle.packet_dump.proofs.engine.run.Goals as goal

-- ---- the loop

pub chunks-init : goal.chunks-init
chunks-init g c = record {
  ran = run_new c.args.session.now _ c.requires.new;
  reader_sound = c.requires.reader_sound;
  writer_sound = c.requires.writer_sound;
  buffer = grind (arith, common_steps);
  counts = omega (arith, ap (λ p. p.number) c.requires.new.read.progress);
  taken = grind (arith, common_steps, c.requires.new.taken, c.requires.reads);
  end = search rules;
  file_sound = c.requires.file_sound ∙ sym (ap is_failed c.requires.new.state ∙ sound_new _);
}

pub chunks-preserved : goal.chunks-preserved
chunks-preserved g c =
    let drained = c.in_ok-capture_state.ensures in
    let taken = c.in_ok-take.ensures in
    let counted = c.in_ok-count.ensures.counted in
    let before = c.chunks.invariant.taken in
    record {
      ran = run_taken c.take.new.self (g.R.Read.remaining (inner_of c.read_chunk.new.reader))
          (take c.in_ok-count.count (drop 4096 c.read_chunk.new.buffer.items))
          (run_flushed c.flush.new.self (g.F.Write.contents (inner_of c.flush.new.file))
          (run_lines c.drain.new.self _ (g.W.Write.contents (inner_of c.write_all.new.self)) _ c.chunks.invariant.ran
          drained.drains c.as_slice.ensures.value c.in_ok-write_all.ensures.all)
          c.flush.ensures.flushes c.flush.ensures.bytes) c.in_ok-count.ensures.bytes.0 taken.processed;
      reader_sound = c.in_ok-count.ensures.failed;
      writer_sound = c.in_ok-write_all.ensures.failed;
      buffer = grind (arith, common_steps);
      counts = taken.counts drained.counts;
      taken = grind (arith, common_steps, taken.taken, drained.taken, counted, before);
      end = c.in_ok-count.ensures.end;
      file_sound = c.flush.ensures.failed ∙ ap (λ s. is_failed s.state) (sym taken.saving);
    }

-- ---- errors

pub returns-in_err-buffer-clause-begun : goal.returns-in_err-buffer-clause-begun
returns-in_err-buffer-clause-begun g c =
    at_exit c.from_residual.result
    (run_begins_saved _ []
    (run_new c.args.session.now
    (record {
      input = g.R.Read.remaining (inner_of c.args.reader.now);
      output = g.W.Write.contents (inner_of c.args.writer.now);
      file = g.F.Write.contents (inner_of c.args.file.now);
    }) c.requires.new) (Consumes-nil _))

pub returns-in_err-capture_state-clause-err : goal.returns-in_err-capture_state-clause-err
returns-in_err-capture_state-clause-err g c =
    at_exit c.from_residual-in_err-capture_state.result (run_begins _ [] c.chunks.invariant.ran (Consumes-nil _))

pub returns-in_err-capture_state-clause-begun : goal.returns-in_err-capture_state-clause-begun
returns-in_err-capture_state-clause-begun g c =
    at_exit c.from_residual-in_err-capture_state.result (run_begins_saved _ [] c.chunks.invariant.ran (Consumes-nil _))

pub returns-in_err-write_all-clause-err : goal.returns-in_err-write_all-clause-err
returns-in_err-write_all-clause-err g c =
    at_exit c.from_residual-in_err-write_all.result
    (run_prefix c.drain.new.self _ (g.W.Write.contents (inner_of c.write_all.new.self)) _ c.chunks.invariant.ran
    c.in_ok-capture_state.ensures.drains c.as_slice.ensures.value c.in_err-write_all.ensures.prefix)

pub returns-in_err-write_all-clause-begun : goal.returns-in_err-write_all-clause-begun
returns-in_err-write_all-clause-begun g c =
    at_exit c.from_residual-in_err-write_all.result (run_begins_saved _ [] c.chunks.invariant.ran (Consumes-nil _))

pub returns-in_err-close-clause-err : goal.returns-in_err-close-clause-err
returns-in_err-close-clause-err g c =
    at_exit c.from_residual-in_err-close.result
    (run_begins _ []
    (run_lines c.drain.new.self _ (g.W.Write.contents (inner_of c.write_all.new.self)) _ c.chunks.invariant.ran
    c.in_ok-capture_state.ensures.drains c.as_slice.ensures.value c.in_ok-write_all.ensures.all) (Consumes-nil _))

pub returns-in_err-close-clause-begun : goal.returns-in_err-close-clause-begun
returns-in_err-close-clause-begun g c =
    at_exit c.from_residual-in_err-close.result
    (rw c.in_err-close.ensures.err (run_begins_saved _ [] c.chunks.invariant.ran (Consumes-nil _)))

pub returns-in_err-count-clause-err : goal.returns-in_err-count-clause-err
returns-in_err-count-clause-err g c =
    let in_2 = g.R.Read.remaining (inner_of c.chunks.reader) in
    at_exit c.from_residual-in_err-count.result
    (run_begins _ []
    (run_lines c.drain.new.self _ (g.W.Write.contents (inner_of c.write_all.new.self)) _ c.chunks.invariant.ran
    c.in_ok-capture_state.ensures.drains c.as_slice.ensures.value c.in_ok-write_all.ensures.all)
    (Consumes-kept in_2 in_2 _ [] (Consumes-nil in_2) c.in_err-count.ensures.bytes))

pub returns-in_err-count-clause-begun : goal.returns-in_err-count-clause-begun
returns-in_err-count-clause-begun g c =
    let in_2 = g.R.Read.remaining (inner_of c.chunks.reader) in
    at_exit c.from_residual-in_err-count.result
    (run_begins_saved _ []
    (run_flushed c.flush.new.self (g.F.Write.contents (inner_of c.flush.new.file))
    (run_lines c.drain.new.self _ (g.W.Write.contents (inner_of c.write_all.new.self)) _ c.chunks.invariant.ran
    c.in_ok-capture_state.ensures.drains c.as_slice.ensures.value c.in_ok-write_all.ensures.all)
    c.flush.ensures.flushes c.flush.ensures.bytes)
    (Consumes-kept in_2 in_2 _ [] (Consumes-nil in_2) c.in_err-count.ensures.bytes))

pub returns-in_err-take-clause-err : goal.returns-in_err-take-clause-err
returns-in_err-take-clause-err g c =
    at_exit c.from_residual-in_err-take.result
    (run_begins _ (take c.in_ok-count.count (drop 4096 c.read_chunk.new.buffer.items))
    (run_lines c.drain.new.self _ (g.W.Write.contents (inner_of c.write_all.new.self)) _ c.chunks.invariant.ran
    c.in_ok-capture_state.ensures.drains c.as_slice.ensures.value c.in_ok-write_all.ensures.all)
    c.in_ok-count.ensures.bytes.0)

pub returns-in_err-take-clause-begun : goal.returns-in_err-take-clause-begun
returns-in_err-take-clause-begun g c =
    at_exit c.from_residual-in_err-take.result
    (run_begins_saved _ (take c.in_ok-count.count (drop 4096 c.read_chunk.new.buffer.items))
    (run_flushed c.flush.new.self (g.F.Write.contents (inner_of c.flush.new.file))
    (run_lines c.drain.new.self _ (g.W.Write.contents (inner_of c.write_all.new.self)) _ c.chunks.invariant.ran
    c.in_ok-capture_state.ensures.drains c.as_slice.ensures.value c.in_ok-write_all.ensures.all)
    c.flush.ensures.flushes c.flush.ensures.bytes) c.in_ok-count.ensures.bytes.0)

-- ---- the end

pub returns-then-ends_run-clause-one_list : goal.returns-then-ends_run-clause-one_list
returns-then-ends_run-clause-one_list g c =
    rw (c.count_pool.ensures.saving, c.ending-ending.ensures)
    (run_written c.drain.new.self c.in_ok-capture_state.capture_state (has_ended c.chunks.reader)
    (g.W.Write.contents (inner_of c.write_all.new.self)) (g.F.Write.contents (inner_of c.close.new.file)) _
    c.close.new.self (plain_of c.count_pool.new.self.summary) c.chunks.invariant.ran
    c.in_ok-capture_state.ensures.drains
    (subst (λ e. ends_run c.in_ok-capture_state.capture_state e ≡ true) c.ended.ensures (sym c.if-ends_run.ensures))
    c.as_slice.ensures.value c.in_ok-write_all.ensures.all c.in_ok-close.ensures.closes c.count_pool.ensures.counts)

pub returns-then-ends_run-clause-counts : goal.returns-then-ends_run-clause-counts
returns-then-ends_run-clause-counts g c =
    let (saved, stored, (read, lines, consumed, appended, (packets, is_run, pool, are, count, saves))) =
    returns-then-ends_run-clause-one_list g c in
    (read, lines, consumed, appended, (packets, is_run, pool, are, count))

pub returns-then-ends_run-clause-ok : goal.returns-then-ends_run-clause-ok
returns-then-ends_run-clause-ok g c =
    let (saved, stored, (read, lines, consumed, appended, (packets, is_run, pool, are, count, saves))) =
    returns-then-ends_run-clause-one_list g c in
    (read, lines, consumed, appended, (packets, is_run, pool, are))

pub returns-then-ends_run-clause-saved : goal.returns-then-ends_run-clause-saved
returns-then-ends_run-clause-saved g c =
    let (saved, stored, (read, lines, consumed, appended, (packets, is_run, pool, are, count, saves))) =
    returns-then-ends_run-clause-one_list g c in
    (read, saved, consumed, stored, (packets, is_run, saves))
