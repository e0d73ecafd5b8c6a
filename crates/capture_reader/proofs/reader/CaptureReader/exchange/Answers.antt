use Rattle.std.proofs.Common.{◌≡◌, ◌+◌, ◌-◌, ◌≤◌, ◌++◌, List, Result, ℕ, Ok, Err, ap, arith, drop, length, refl, subst, sym, take, rules, ◌∙◌}
use Rattle.std.proofs.lemmas.Grind.{common_steps}
use Rattle.std.proofs.lemmas.List.{take_all}
use Rattle.std.proofs.Math.Seq.{drop-append_seam}
use Rattle.std.specs.Result.{OnOk}
use Rattle.capture_reader.specs.Captures.{Item}
use Rattle.capture_reader.specs.Readers.{Reads, reader_rest}
use Rattle.capture_reader.proofs.ReaderLemmas.{takes_more}
use Rattle.capture_reader.proofs.reader.CaptureReader.exchange.Goals as goal

pub returns-then-start-unread-clause-ok : goal.returns-then-start-unread-clause-ok
returns-then-start-unread-clause-ok c =
    let start = c.args.start in
    let count = c.args.count in
    let same : (start + count) - start ≡ count = omega arith in
    let Took : ℕ → List ℕ → Type 0 = λ n bytes. OnOk c.take.result ((taken : List ℕ) (items : List Item)
    → Reads c.args.self.now taken items → Reads c.take.new.self (taken ++ take n (drop start bytes)) items) in
    subst (λ n. Took n c.args.buffer.now.items) same
    (subst (λ bytes. Took ((start + count) - start) bytes) c.as_slice.ensures.value c.take.ensures.ok)

always : {T E P : Type 0} (r : Result T E) → P → OnOk r P
always (Ok x) p = p
always (Err e) p = tt

-- bytes written just before a position are followed by the bytes from that position on
drop_prefix : (bytes part : List ℕ) (end : ℕ) → length part ≤ end → end ≤ length bytes
    → drop (end - length part) (take (end - length part) bytes ++ (part ++ drop end bytes)) ≡ part ++ drop end bytes
drop_prefix bytes part end part_fits within =
    let prefix = take (end - length part) bytes in
    let len : length prefix ≡ end - length part = grind (arith, common_steps) in
    subst (λ n. drop n (prefix ++ (part ++ drop end bytes)) ≡ part ++ drop end bytes) len
    (drop-append_seam prefix (part ++ drop end bytes))

pub returns-clause-ok : goal.returns-clause-ok
returns-clause-ok c =
    let self = c.args.self.now in
    let start = c.args.start in
    let part = reader_rest self in
    let bytes = c.args.buffer.now.items in
    let piece = take c.args.count (drop start bytes) in
    let len : c.len.result - self.end ≡ length part = grind (arith, common_steps) in
    let complete : drop start bytes ≡ piece =
    sym (take_all c.args.count (drop start bytes) (grind (arith, common_steps))) in
    let placed : c.swap.new.x.items ≡ take (start - length part) bytes ++ (part ++ drop start bytes) = search rules in
    let rest : drop (start - (c.len.result - self.end)) c.swap.new.x.items ≡ part ++ piece =
    ap (λ n. drop (start - n) c.swap.new.x.items) len ∙ ap (λ (l : List ℕ). drop (start - length part) l) placed
    ∙ drop_prefix bytes part start (grind (arith, common_steps)) (grind (arith, common_steps))
    ∙ ap (λ l. part ++ l) complete in
    always c.resize.result (takes_more self _ piece refl c.reserve-2.ensures.items rest refl)
