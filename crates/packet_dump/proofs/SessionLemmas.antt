-- A session that reads and processes items of a capture.
use Rattle.std.proofs.Common.{◌≡◌, ◌≢◌, ℕ, ◌+◌, ◌<◌, ◌≤◌, arith, false, List, [], ◌∷◌, ◌++◌, Option, Some, None, Ok}
use Rattle.std.proofs.Common.{IfNone, IfSome, drop, refl, sym, ap, subst, ◌∙◌, append_assoc}
use Rattle.std.proofs.lemmas.List.{append-nil}
use Rattle.capture_reader.specs.Captures.{Item, PlainShown, at_start, items_bytes, shown_in, stage_after}
use Rattle.capture_reader.specs.Captures.{stage_after_items}
use Rattle.capture_reader.specs.Readers.{AdvancesTo, AnswersAhead, Reads, ReadsAhead, ShowsAhead, reader_rest}
use Rattle.capture_reader.specs.Readers.{reader_shown, rest_after}
use Rattle.capture_reader.specs.declared.reader.Advance.{Advance}
use Rattle.capture_reader.specs.declared.reader.Advance.TheVariants.{Packet, Other}
use Rattle.capture_reader.specs.declared.reader.CaptureReader.{CaptureReader}
use Rattle.capture_reader.specs.declared.shown.Shown.{Shown}
use Rattle.packet_dump.specs.DecodedPackets.{AreDecoded, DecodedPacket, IsItemDecoded, none_read, packets_in}
use Rattle.packet_dump.specs.DecodedPackets.{progress_after, progress_after_items, progress_with}
use Rattle.packet_dump.specs.Dumps.{AreAllLines, AreFewer}
use Rattle.packet_dump.specs.PacketCalls.{PoolHistory, new_pool}
use Rattle.packet_dump.specs.PacketLines.{line_of}
use Rattle.packet_dump.specs.Saves.{Saves}
use Rattle.packet_dump.specs.Sessions.{Drains, HasParsed, HasProcessed, HasState, HoldsPooling, ProcessesPacket}
use Rattle.packet_dump.specs.Sessions.{Written, progress_of, with_lines}
use Rattle.packet_dump.specs.Summaries.{counted_all, counted_one, plain_of}
use Rattle.packet_dump.specs.declared.dump_options.DumpOptions.{DumpOptions}
use Rattle.packet_dump.specs.declared.session.CaptureState.{CaptureState}
use Rattle.packet_dump.specs.declared.session.Session.{Session}
use Rattle.packet_dump.proofs.PacketLemmas.{decoded_more, lines_more, progress_more, stage_more}
use Rattle.packet_dump.proofs.SummaryLemmas.{counted_more}

-- ---- the same packets

-- A session whose parser read the same items, with other pending lines and bytes, has processed the same packets.
abbrev pub processed_same : (options : DumpOptions) (old new : Session) (read next : List ℕ) (written : Written)
    (saved : List ℕ) → (was : HasProcessed options old read written) → Reads new.capture next was.items
    → Saves options written.wanted false new.saving.state was.packets (saved ++ new.saving.bytes.items)
    → HasProcessed options (record old { capture = new.capture; output = new.output; saving = new.saving }) next
    (record written { saved = saved })
processed_same options old new read next written saved was reads saves = record {
  items = was.items;
  packets = was.packets;
  history = was.history;
  has_read = record {
    options_is = was.has_read.options_is;
    reads = reads;
    within = was.has_read.within;
    progress = was.has_read.progress;
    decoded = was.has_read.decoded;
    pooled = was.has_read.pooled;
  };
  lines = was.lines;
  counted = was.counted;
  saves = saves;
}

-- A step with the options of the session is one with the options that it has.
pub with_options : (options : DumpOptions) (old new : Session) (read : List ℕ) (written next : Written)
    → (HasProcessed old.options old read written → HasProcessed old.options new read next)
    → HasProcessed options old read written → HasProcessed options new read next
with_options options old new read written next step was =
    subst (λ o. HasProcessed o old read written → HasProcessed o new read next) was.has_read.options_is step was

-- ---- one more item

-- The session has these options, and processed the packets of these items, whichever bytes its parser has read.
pub record Processed (options : DumpOptions) (session : Session) (written : Written) (items : List Item)
    : Type 0 where
  pub packets : List DecodedPacket
  pub history : PoolHistory
  pub options_is : session.options ≡ options
  pub within : session.number ≤ options.most
  pub progress : progress_after_items none_read items ≡ progress_of (stage_after_items at_start items) session
  pub decoded : AreDecoded options none_read items packets
  pub pooled : HoldsPooling history session.pooling
  pub lines : AreAllLines options packets written.lines history
  pub counted : plain_of session.summary ≡ counted_all packets written.start
  pub saves : Saves options written.wanted false session.saving.state packets
      (written.saved ++ session.saving.bytes.items)

processed_items : (options : DumpOptions) (session : Session) (read : List ℕ) (written : Written)
    → (was : HasProcessed options session read written) → Processed options session written was.items
processed_items options session read written was = record {
  packets = was.packets;
  history = was.history;
  options_is = was.has_read.options_is;
  within = was.has_read.within;
  progress = was.has_read.progress;
  decoded = was.has_read.decoded;
  pooled = was.has_read.pooled;
  lines = was.lines;
  counted = was.counted;
  saves = was.saves;
}

-- A session with a parser that has read the items has processed them.
processed_with : (options : DumpOptions) (session : Session) (parser : CaptureReader) (read : List ℕ)
    (written : Written) (items : List Item) → Processed options session written items → Reads parser read items
    → HasProcessed options (record session { capture = parser }) read written
processed_with options session parser read written items was reads = record {
  items = items;
  packets = was.packets;
  history = was.history;
  has_read = record {
    options_is = was.options_is;
    reads = reads;
    within = was.within;
    progress = was.progress;
    decoded = was.decoded;
    pooled = was.pooled;
  };
  lines = was.lines;
  counted = was.counted;
  saves = was.saves;
}

-- Progress after one more item.
progressed : (old new : Session) (items : List Item) (item : Item) (shown : Option PlainShown)
    → progress_after_items none_read items ≡ progress_of (stage_after_items at_start items) old
    → shown_in (stage_after_items at_start items) item ≡ shown
    → progress_with (progress_of (stage_after_items at_start items) old) item shown
    ≡ progress_of (stage_after (stage_after_items at_start items) item) new
    → progress_after_items none_read (items ++ item ∷ [])
    ≡ progress_of (stage_after_items at_start (items ++ item ∷ [])) new
progressed old new items item shown was shows goes_on =
    let stage = stage_after_items at_start items in
    progress_more items none_read item ∙ ap (λ p. progress_after p item) was
    ∙ ap (λ (s : Option PlainShown). progress_with (progress_of stage old) item s) shows ∙ goes_on
    ∙ ap (λ s. progress_of s new) (sym (stage_more items at_start item))

-- The packets of one more item come after the others.
decoded_with : (options : DumpOptions) (old : Session) (items : List Item) (packets one : List DecodedPacket)
    (item : Item) (shown : Option PlainShown)
    → progress_after_items none_read items ≡ progress_of (stage_after_items at_start items) old
    → shown_in (stage_after_items at_start items) item ≡ shown → AreDecoded options none_read items packets
    → IsItemDecoded options (progress_of (stage_after_items at_start items) old) shown one
    → AreDecoded options none_read (items ++ item ∷ []) (packets ++ one)
decoded_with options old items packets one item shown was shows before decoded =
    let stage = stage_after_items at_start items in
    decoded_more options items none_read item packets one before
    (subst (λ p. IsItemDecoded options p (shown_in p.stage item) one) (sym was)
    (subst (λ (s : Option PlainShown). IsItemDecoded options (progress_of stage old) s one) (sym shows) decoded))

-- the effect of advancing a parser to this item
abbrev pub Advancing : CaptureReader → CaptureReader → Advance → Type 0
Advancing old new advance =
    (taken : List ℕ) (items : List Item) → Reads old taken items → AdvancesTo new taken items (Ok advance)

-- An item that is no packet was read.
pub processed_other : (old : Session) (moved : CaptureReader) (read : List ℕ) (written : Written)
    → Advancing old.capture moved Other → HasProcessed old.options old read written
    → HasProcessed old.options (record old { capture = moved }) read written
processed_other old moved read written advanced has =
    let was = processed_items old.options old read written has in
    let (item, other, reads) = advanced read has.items has.has_read.reads in
    processed_with old.options old moved read written (has.items ++ item ∷ []) (record {
      packets = was.packets;
      history = was.history;
      options_is = refl;
      within = was.within;
      progress = progressed old old has.items item None was.progress other refl;
      decoded = subst (AreDecoded old.options none_read (has.items ++ item ∷ [])) (append-nil was.packets)
          (decoded_with old.options old has.items was.packets [] item None was.progress other was.decoded refl);
      pooled = was.pooled;
      lines = was.lines;
      counted = was.counted;
      saves = was.saves;
    }) reads

-- A packet was read, and is not processed yet.
pub parsed : (old : Session) (moved : CaptureReader) (read : List ℕ) (written : Written)
    → Advancing old.capture moved Packet → HasProcessed old.options old read (with_lines written old.output.items)
    → HasParsed old.options (record old { capture = moved }) read written
parsed old moved read written advanced has =
    let (item, reads, shows) = advanced read has.items has.has_read.reads in
    record { parser = old.capture; processed = has; item = item; reads = reads; shows = shows.shown }

-- ---- packets ahead of the parser

-- The session processed the packets before this one, which ends `ahead` bytes after the bytes that the parser has read.
pub record ParsedAhead (options : DumpOptions) (session : Session) (parser : CaptureReader) (ahead : ℕ)
    (shown : PlainShown) (read : List ℕ) (written : Written) : Type 0 where
  pub items : List Item
  pub processed : Processed options session (with_lines written session.output.items) items
  pub item : Item
  pub reads : ReadsAhead parser ahead read (items ++ item ∷ [])
  pub shows : shown_in (stage_after_items at_start items) item ≡ Some shown

-- The session processed the packets that end `ahead` bytes after the bytes that the parser has read.
pub record ProcessedAhead (options : DumpOptions) (session : Session) (parser : CaptureReader) (ahead : ℕ)
    (read : List ℕ) (written : Written) : Type 0 where
  pub items : List Item
  pub processed : Processed options session (with_lines written session.output.items) items
  pub reads : ReadsAhead parser ahead read items

-- The items that a parser has read end 0 bytes after it.
reads_none_ahead : (parser : CaptureReader) (read : List ℕ) (items : List Item) → Reads parser read items
    → ReadsAhead parser 0 read items
reads_none_ahead parser read items reads =
    let same : reader_rest parser ≡ rest_after parser 0 =
    ap (λ (n : ℕ). drop n parser.buffer.items) (omega arith) in
    record {
      fits = reads.fits;
      parts = reads.parts ∙ ap (λ (s : List ℕ). items_bytes at_start items ++ s) same;
      stage = reads.stage;
      offset = omega (arith, reads.offset);
    }

-- The packet that the parser read last is the first packet that is not processed, also once the session has another
-- parser.
pub parsed_ahead : (options : DumpOptions) (session : Session) (other : CaptureReader) (shown : PlainShown)
    (read : List ℕ) (written : Written) → shown ≡ reader_shown session.capture
    → HasParsed options session read written
    → ParsedAhead options (record session { capture = other }) session.capture 0 shown read written
parsed_ahead options session other shown read written shown_is was =
    let processed = processed_items options (record session { capture = was.parser }) read
    (with_lines written session.output.items) was.processed in
    record {
      items = was.processed.items;
      processed = record {
        packets = processed.packets;
        history = processed.history;
        options_is = processed.options_is;
        within = processed.within;
        progress = processed.progress;
        decoded = processed.decoded;
        pooled = processed.pooled;
        lines = processed.lines;
        counted = processed.counted;
        saves = processed.saves;
      };
      item = was.item;
      reads = reads_none_ahead session.capture read (was.processed.items ++ was.item ∷ []) was.reads;
      shows = was.shows ∙ ap (λ (s : PlainShown). Some s) (sym shown_is);
    }

-- The packet was processed, with the session's options.
processed_own : (old new : Session) (parser : CaptureReader) (ahead : ℕ) (shown : PlainShown) (read : List ℕ)
    (written : Written)
    → ((before : PoolHistory) → HoldsPooling before old.pooling → ProcessesPacket old new before shown)
    → old.number ≢ old.options.most → ParsedAhead old.options old parser ahead shown read written
    → ProcessedAhead old.options new parser ahead read written
processed_own old new parser ahead shown read written process fewer parsed =
    let was = parsed.processed in
    let items = parsed.items in
    let item = parsed.item in
    let stage = stage_after_items at_start items in
    let done = process was.history was.pooled in
    let number : new.number ≡ old.number + 1 = ap (λ p. p.number) (sym (done.progress at_start item)) in
    let within : old.number ≤ old.options.most = was.within in
    let same : written.lines ++ old.output.items ++ line_of old.options done.one ++ done.answer
    ≡ written.lines ++ new.output.items = rw done.output (simp append_assoc) in
    record {
      items = items ++ item ∷ [];
      processed = record {
        packets = was.packets ++ done.one ∷ [];
        history = done.after;
        options_is = done.options;
        within = omega (arith, number, within, fewer);
        progress = progressed old new items item (Some shown) was.progress parsed.shows (done.progress stage item);
        decoded = decoded_with old.options old items was.packets (done.one ∷ []) item (Some shown) was.progress
            parsed.shows was.decoded (done.one, done.follows stage, done.decoded, refl);
        pooled = done.pooled;
        lines = subst (λ (t : List ℕ). AreAllLines old.options (was.packets ++ done.one ∷ []) t done.after) same
            (lines_more old.options was.packets (new_pool old.options) was.history done.after done.one
            (written.lines ++ old.output.items) done.answer was.lines done.passes);
        counted = done.counted ∙ ap (counted_one done.one) was.counted
            ∙ sym (counted_more was.packets done.one written.start);
        saves = done.saves was.packets written.wanted written.saved was.saves;
      };
      reads = parsed.reads;
    }

-- The packet was processed.
pub processed_ahead : (options : DumpOptions) (old new : Session) (parser : CaptureReader) (ahead : ℕ)
    (shown : PlainShown) (read : List ℕ) (written : Written)
    → ((before : PoolHistory) → HoldsPooling before old.pooling → ProcessesPacket old new before shown)
    → old.number ≢ old.options.most → ParsedAhead options old parser ahead shown read written
    → ProcessedAhead options new parser ahead read written
processed_ahead options old new parser ahead shown read written process fewer parsed =
    subst (λ o. ParsedAhead o old parser ahead shown read written → ProcessedAhead o new parser ahead read written)
    parsed.processed.options_is (processed_own old new parser ahead shown read written process fewer) parsed

-- The next packet is the first packet that is not processed.
pub next_ahead : (options : DumpOptions) (session : Session) (parser : CaptureReader) (ahead next : ℕ)
    (shown : PlainShown) (read : List ℕ) (written : Written) → ShowsAhead parser ahead next shown
    → ProcessedAhead options session parser ahead read written
    → ParsedAhead options session parser next shown read written
next_ahead options session parser ahead next shown read written shows was =
    let (item, reads, shows_it) = shows read was.items was.reads in
    record { items = was.items; processed = was.processed; item = item; reads = reads; shows = shows_it }

-- A parser that advanced past the packets has read them.
pub passed : (options : DumpOptions) (session : Session) (parser moved : CaptureReader) (ahead : ℕ) (read : List ℕ)
    (written : Written)
    → ((taken : List ℕ) (items : List Item) → ReadsAhead parser ahead taken items → Reads moved taken items)
    → ProcessedAhead options session parser ahead read written
    → HasProcessed options (record session { capture = moved }) read (with_lines written session.output.items)
passed options session parser moved ahead read written reads was =
    processed_with options session moved read (with_lines written session.output.items) was.items was.processed
    (reads read was.items was.reads)

-- ---- the end of the bytes

fewer : (number most wanted packets : ℕ) → number ≢ most → number ≤ wanted → most ≡ wanted → packets ≡ number
    → packets < wanted
fewer number most wanted packets not_all within same count = omega (arith, not_all, within, same, count)

-- No item more was read, and the capture has this state.
pub drains_end : (options : DumpOptions) (old : Session) (moved : CaptureReader) (capture_state : CaptureState)
    (read : List ℕ) (written : Written) → old.number ≢ old.options.most
    → (was : HasProcessed options old read (with_lines written old.output.items)) → Reads moved read was.items
    → (AreFewer options was.items → HasState options capture_state read was.items)
    → Drains options (record old { capture = moved }) capture_state read written
drains_end options old moved capture_state read written not_all was reads state = (
  processed_same options old (record old { capture = moved }) read read (with_lines written old.output.items)
      written.saved was reads was.saves,
  state (fewer old.number old.options.most options.most (packets_in was.items) not_all was.has_read.within
      (ap (λ o. o.most) was.has_read.options_is) (ap (λ p. p.number) was.has_read.progress)),
)

-- ---- results of reading ahead

pub some_ahead : (parser : CaptureReader) (ahead next : ℕ) (found : Option Shown)
    → AnswersAhead parser ahead next found → IfSome found (λ shown. AnswersAhead parser ahead next (Some shown))
some_ahead parser ahead next (Some shown) answers = answers
some_ahead parser ahead next None answers = tt

pub none_ahead : (parser : CaptureReader) (ahead next : ℕ) (found : Option Shown)
    → AnswersAhead parser ahead next found → IfNone found (next ≡ ahead)
none_ahead parser ahead next (Some shown) answers = tt
none_ahead parser ahead next None answers = answers.1
