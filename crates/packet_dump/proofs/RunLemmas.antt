-- A run: what was read from its input and written to its output and to its capture file.
use Rattle.std.proofs.Common.{◌≡◌, ℕ, ◌≤◌, Bool, if◌then◌else◌, true, false, List, [], ◌++◌, Option, refl, sym, ap}
use Rattle.std.proofs.Common.{arith, subst, ◌∙◌, append_assoc}
use Rattle.std.proofs.KnownBytes.{Appends-nil, Appends-trans, Consumes-nil, Consumes-trans}
use Rattle.std.proofs.lemmas.List.{append-nil}
use Rattle.std.specs.Io.KnownBytes.{Appends, Consumes}
use Rattle.capture_reader.specs.Captures.{Item, RefusesCapture, at_start, items_bytes}
use Rattle.capture_reader.specs.Readers.{reader_rest}
use Rattle.capture_reader.specs.declared.refusal.CaptureError.{CaptureError}
use Rattle.line_io.specs.Transfers.{Moves}
use Rattle.line_io.specs.WatchedWords.{AppendsPrefix}
use Rattle.packet_dump.specs.DecodedPackets.{packets_in}
use Rattle.packet_dump.specs.Dumps.{AreAllLines, BeginsDump, BeginsRun, EndsAt, IsRefused, IsRun}
use Rattle.packet_dump.specs.PacketCalls.{PoolHistory, new_pool}
use Rattle.packet_dump.specs.Saves.{BeginsSaved, Closes, Flushes, Saves, asks, is_failed, new_state}
use Rattle.packet_dump.specs.Runs.{WritesRun}
use Rattle.packet_dump.specs.Sessions.{Drains, HasProcessed, HasState, HoldsPooling, IsUnread, Written}
use Rattle.packet_dump.specs.Sessions.{ending_of, ends_run}
use Rattle.packet_dump.specs.Summaries.{CountsFragments, IsCountedDump, PlainSummary, new_summary, plain_of}
use Rattle.packet_dump.specs.SummaryTexts.{IsSummedDump, summary_text}
use Rattle.packet_dump.specs.declared.dump_options.DumpOptions.{DumpOptions}
use Rattle.packet_dump.specs.declared.ending.Ending.{Ending}
use Rattle.packet_dump.specs.declared.saving.Saving.{Saving}
use Rattle.packet_dump.specs.declared.session.CaptureState.{CaptureState}
use Rattle.packet_dump.specs.declared.session.CaptureState.TheVariants.{MayEnd, Enough, Cut, Refused}
use Rattle.packet_dump.specs.declared.session.Session.{Session}
use Rattle.packet_dump.proofs.SavingLemmas.{begins_saved}
use Rattle.packet_dump.proofs.SessionLemmas.{processed_same}

-- the bytes that remain in the input of a run, and the contents of its output and of its capture file, as far as they
-- are known
pub record Streams : Type 0 where
  pub input : Option (List ℕ)
  pub output : Option (List ℕ)
  pub file : Option (List ℕ)

-- A run that began with the session `old` and the streams `first` has this session and these streams now: these bytes
-- were read, and these lines and these bytes of the capture file were written.
pub record HasRun (old : Session) (first now : Streams) (session : Session) : Type 0 where
  pub read : List ℕ
  pub lines : List ℕ
  pub saved : List ℕ
  pub consumed : Consumes first.input now.input read
  pub appended : Appends first.output now.output lines
  pub stored : Appends first.file now.file saved
  pub processed : HasProcessed old.options session read
      (record { start = plain_of old.summary; wanted = asks old.saving.state; lines = lines; saved = saved })

-- the effect of draining a session
abbrev pub Draining : Session → Session → CaptureState → Type 0
Draining old new capture_state = (options : DumpOptions) (read : List ℕ) (written : Written)
    → HasProcessed options old read written → Drains options new capture_state read written

-- ---- the start

saves_new : (options : DumpOptions) (wanted : Bool) → Saves options wanted false (new_state wanted) [] []
saves_new options false = refl
saves_new options true = ((omega arith, tt), refl, refl)

-- A new capture file has not failed.
pub sound_new : (wanted : Bool) → is_failed (new_state wanted) ≡ false
sound_new false = refl
sound_new true = refl

-- At the start nothing is read or written.
pub run_new : (session : Session) (first : Streams) → IsUnread session → HasRun session first first session
run_new session first new =
    let options = session.options in
    let wanted = asks session.saving.state in
    record {
      read = [];
      lines = [];
      saved = [];
      consumed = Consumes-nil first.input;
      appended = Appends-nil first.output;
      stored = Appends-nil first.file;
      processed = record {
        items = [];
        packets = [];
        history = new_pool options;
        has_read = new.read;
        lines = (refl, refl);
        counted = refl;
        saves = subst (λ (b : List ℕ). Saves options wanted false session.saving.state [] b) (sym new.bytes)
            (subst (λ s. Saves options wanted false s [] []) (sym new.state) (saves_new options wanted));
      };
    }

-- ---- steps

-- Packets were processed, and their lines were written.
pub run_lines : {old session : Session} {first now : Streams} (next : Session) (capture_state : CaptureState)
    (output : Option (List ℕ)) (lines : List ℕ) → HasRun old first now session → Draining session next capture_state
    → lines ≡ next.output.items → Appends now.output output lines
    → HasRun old first (record now { output = output }) next
run_lines {first} {now} next capture_state output lines ran drain same more =
    let appended = subst (λ (t : List ℕ). Appends now.output output t) same more in
    record {
      read = ran.read;
      lines = ran.lines ++ next.output.items;
      saved = ran.saved;
      consumed = ran.consumed;
      appended = Appends-trans first.output now.output output ran.lines next.output.items ran.appended appended;
      stored = ran.stored;
      processed = (drain _ ran.read _ ran.processed).0;
    }

-- The pending bytes of the capture file were written, as far as it accepted them.
pub run_flushed : {old session : Session} {first now : Streams} (next : Saving) (file : Option (List ℕ))
    → HasRun old first now session → Flushes session.saving next now.file file → next.bytes.items ≡ []
    → HasRun old first (record now { file = file }) (record session { saving = next })
run_flushed {old} {session} {first} {now} next file ran flush none =
    let done = ran.processed in
    let wanted = asks old.saving.state in
    let flushed = flush old.options wanted false done.packets ran.saved done.saves in
    let saved = ran.saved ++ flushed.0 in
    record {
      read = ran.read;
      lines = ran.lines;
      saved = saved;
      consumed = ran.consumed;
      appended = ran.appended;
      stored = Appends-trans first.file now.file file ran.saved flushed.0 ran.stored flushed.1;
      processed = processed_same old.options session (record session { saving = next }) ran.read ran.read _ saved done
          done.has_read.reads
          (subst (λ (b : List ℕ). Saves old.options wanted false next.state done.packets b)
          (sym (ap (λ (b : List ℕ). saved ++ b) none ∙ append-nil saved)) flushed.2);
    }

-- A chunk was read, and the session took it.
pub run_taken : {old session : Session} {first now : Streams} (next : Session) (input : Option (List ℕ))
    (piece : List ℕ) → HasRun old first now session → Consumes now.input input piece
    → ((options : DumpOptions) (read : List ℕ) (written : Written) → HasProcessed options session read written
    → HasProcessed options next (read ++ piece) written) → HasRun old first (record now { input = input }) next
run_taken {first} {now} next input piece ran more take = record {
  read = ran.read ++ piece;
  lines = ran.lines;
  saved = ran.saved;
  consumed = Consumes-trans first.input now.input input ran.read piece ran.consumed more;
  appended = ran.appended;
  stored = ran.stored;
  processed = take _ ran.read _ ran.processed;
}

-- ---- a run that fails

-- The input begins with the packets of a session, whatever bytes come after those that it took.
begins_run : (options : DumpOptions) (session : Session) (read more : List ℕ) (written : Written)
    → (done : HasProcessed options session read written) → BeginsRun options (read ++ more) done.packets
begins_run options session read more written done =
    let has_read = done.has_read in
    let rest = reader_rest session.capture in (
      done.items,
      (
        rest ++ more,
        has_read.reads.fits,
        ap (λ (b : List ℕ). b ++ more) has_read.reads.parts ∙ append_assoc (items_bytes at_start done.items) rest more,
      ),
      subst (λ (n : ℕ). n ≤ options.most) (sym (ap (λ p. p.number) has_read.progress)) has_read.within,
      has_read.decoded,
    )

begins_dump : (options : DumpOptions) (session : Session) (read more lines rest : List ℕ) (written : Written)
    → HasProcessed options session read written → written.lines ≡ lines ++ rest
    → BeginsDump options (read ++ more) lines
begins_dump options session read more lines rest written done parts = (
  done.packets,
  rest,
  begins_run options session read more written done,
  done.history,
  subst (λ (t : List ℕ). AreAllLines options done.packets t done.history) parts done.lines,
)

-- The output begins the lines of the input, also if more of the input was read.
pub run_begins : {old session : Session} {first now : Streams} (input : Option (List ℕ)) (more : List ℕ)
    → HasRun old first now session → Consumes now.input input more
    → Moves (BeginsDump old.options) first.input input first.output now.output
run_begins {old} {session} {first} {now} input more ran consumed = (
  ran.read ++ more,
  ran.lines,
  Consumes-trans first.input now.input input ran.read more ran.consumed consumed,
  ran.appended,
  begins_dump old.options session ran.read more ran.lines [] _ ran.processed (sym (append-nil ran.lines)),
)

-- The output begins the lines of the input, also if the pending lines were not all written.
pub run_prefix : {old session : Session} {first now : Streams} (next : Session) (capture_state : CaptureState)
    (output : Option (List ℕ)) (lines : List ℕ) → HasRun old first now session → Draining session next capture_state
    → lines ≡ next.output.items → AppendsPrefix now.output output lines
    → Moves (BeginsDump old.options) first.input now.input first.output output
run_prefix {old} {first} {now} next capture_state output lines ran drain same (prefix, rest, more, parts) = (
  ran.read,
  ran.lines ++ prefix,
  ran.consumed,
  Appends-trans first.output now.output output ran.lines prefix ran.appended more,
  subst (λ (b : List ℕ). BeginsDump old.options b (ran.lines ++ prefix)) (append-nil ran.read)
      (begins_dump old.options next ran.read [] (ran.lines ++ prefix) rest _ (drain _ ran.read _ ran.processed).0
      (ap (λ (t : List ℕ). ran.lines ++ t) (sym same ∙ parts) ∙ sym (append_assoc ran.lines prefix rest))),
)

-- The capture file begins the capture of the selected packets, also if more of the input was read.
pub run_begins_saved : {old session : Session} {first now : Streams} (input : Option (List ℕ)) (more : List ℕ)
    → HasRun old first now session → Consumes now.input input more
    → Moves (BeginsSaved old.options (asks old.saving.state)) first.input input first.file now.file
run_begins_saved {old} {session} {first} {now} input more ran consumed = (
  ran.read ++ more,
  ran.saved,
  Consumes-trans first.input now.input input ran.read more ran.consumed consumed,
  ran.stored,
  begins_saved old.options (asks old.saving.state) session.saving.state (ran.read ++ more) ran.processed.packets
      ran.saved session.saving.bytes.items (begins_run old.options session ran.read more _ ran.processed)
      ran.processed.saves,
)

-- ---- a run that ends

refused_at : (ended : Bool) (read : List ℕ) (found : List Item × CaptureError)
    → ((more : List ℕ) → RefusesCapture (read ++ more) found) → IsRefused ended read found
refused_at true read found refused = subst (λ (b : List ℕ). RefusesCapture b found) (append-nil read) (refused [])
refused_at false read found refused = refused

ends_at : (options : DumpOptions) (ended : Bool) (capture_state : CaptureState) (number : ℕ) (read : List ℕ)
    (items : List Item) → ends_run capture_state ended ≡ true → number ≡ packets_in items
    → HasState options capture_state read items → EndsAt options ended (ending_of capture_state number) read items
ends_at options ended MayEnd number read items ends count state = (ends, state.1, state.0)
ends_at options ended Enough number read items ends count state = state
ends_at options ended (Cut error) number read items ends count state =
    (subst (λ e. IsRefused e read (items, error)) (sym ends) state.1, state.0, count)
ends_at options ended (Refused error) number read items ends count state =
    (refused_at ended read (items, error) state.1, state.0, count)

-- A run that ends in this state of the capture has the packets of its session.
is_run : (options : DumpOptions) (ended : Bool) (session : Session) (capture_state : CaptureState) (read : List ℕ)
    (written : Written) → ends_run capture_state ended ≡ true
    → (drains : Drains options session capture_state read written)
    → IsRun options ended (ending_of capture_state session.number) read drains.0.packets
is_run options ended session capture_state read written ends (done, state) =
    let count = ap (λ p. p.number) done.has_read.progress in (
      done.items,
      ends_at options ended capture_state session.number read done.items ends (sym count) state,
      subst (λ (n : ℕ). n ≤ options.most) (sym count) done.has_read.within,
      done.has_read.decoded,
    )

-- The lines, the counts and the bytes of the capture file are those of the packets of the session.
pub run_written : {old session : Session} {first now : Streams} (next : Session) (capture_state : CaptureState)
    (ended : Bool) (output file : Option (List ℕ)) (lines : List ℕ) (closed : Saving) (last : PlainSummary)
    → HasRun old first now session → Draining session next capture_state → ends_run capture_state ended ≡ true
    → lines ≡ next.output.items → Appends now.output output lines → Closes next.saving closed now.file file
    → ((history : PoolHistory) → HoldsPooling history next.pooling
    → CountsFragments next.options history (plain_of next.summary) last)
    → (saved : List ℕ) × Appends first.file file saved
    × Moves (WritesRun old.options (asks old.saving.state) ended (ending_of capture_state next.number)
    (plain_of old.summary) last closed.state saved) first.input now.input first.output output
run_written {old} {first} {now} next capture_state ended output file lines closed last ran drain ends same more close
    count =
    let drains = drain _ ran.read _ ran.processed in
    let done = drains.0 in
    let options = old.options in
    let flushed = close options (asks old.saving.state) done.packets ran.saved done.saves in (
      ran.saved ++ flushed.0,
      Appends-trans first.file now.file file ran.saved flushed.0 ran.stored flushed.1,
      (
        ran.read,
        ran.lines ++ lines,
        ran.consumed,
        Appends-trans first.output now.output output ran.lines lines ran.appended more,
        (
          done.packets,
          is_run options ended next capture_state ran.read _ ends drains,
          done.history,
          subst (λ (t : List ℕ). AreAllLines options done.packets (ran.lines ++ t) done.history) (sym same) done.lines,
          subst (λ (s : PlainSummary). CountsFragments options done.history s last) done.counted
              (subst (λ o. CountsFragments o done.history (plain_of next.summary) last)
              done.has_read.options_is (count done.history done.has_read.pooled)),
          flushed.2,
        ),
      ),
    )

-- The text of the summary was written after the lines, if a summary is wanted.
pub run_summed : (wanted : Bool) (options : DumpOptions) (ended : Bool) (ending : Ending) (start last : PlainSummary)
    (in_1 in_2 out_1 out_2 out_3 : Option (List ℕ)) (text : List ℕ) → start ≡ new_summary wanted options.quiet
    → text ≡ (if wanted then summary_text last else [])
    → Moves (IsCountedDump options ended ending start last) in_1 in_2 out_1 out_2 → Appends out_2 out_3 text
    → Moves (IsSummedDump wanted options ended ending) in_1 in_2 out_1 out_3
run_summed wanted options ended ending start last in_1 in_2 out_1 out_2 out_3 text new is
    (read, lines, consumed, appended, counted) more = (
      read,
      lines ++ text,
      consumed,
      Appends-trans out_1 out_2 out_3 lines text appended more,
      (
        lines,
        last,
        subst (λ (s : PlainSummary). IsCountedDump options ended ending s last read lines) new counted,
        ap (λ (t : List ℕ). lines ++ t) is,
      ),
    )
