use Rattle.std.proofs.Common.{◌≡◌, ◌+◌, ◌++◌, List, ℕ, drop, length, take, ap, arith, length-append, subst, ◌∙◌}
use Rattle.std.proofs.lemmas.Grind.{common_steps}
use Rattle.std.proofs.Math.Seq.{drop-append_seam, take-append_seam}
use Rattle.packet_dump.proofs.engine.read_chunk.Goals as goal

-- the part after the first bytes of a vector, once it is written
written : (prefix chunk after : List ℕ) (start len : ℕ) → length prefix ≡ start → start + length chunk ≡ len
    → drop start (take len ((prefix ++ chunk) ++ after)) ≡ chunk
written prefix chunk after start len is_prefix is_len =
    let complete : length (prefix ++ chunk) ≡ len =
    length-append prefix chunk ∙ ap (λ n. n + length chunk) is_prefix ∙ is_len in
    subst (λ n. drop n (take len ((prefix ++ chunk) ++ after)) ≡ chunk) is_prefix
    (subst (λ n. drop (length prefix) (take n ((prefix ++ chunk) ++ after)) ≡ chunk) complete
    (ap (λ l. drop (length prefix) l) (take-append_seam (prefix ++ chunk) after) ∙ drop-append_seam prefix chunk))

pub returns-clause-bytes : goal.returns-clause-bytes
returns-clause-bytes g c =
    let prefix = c.split_at_mut-chunk.result.0.now in
    let chunk = c.read.new.piece in
    let len : 4096 + length chunk ≡ c.args.buffer.now.len = grind (arith, common_steps) in
    rw (written prefix chunk (drop (length (prefix ++ chunk)) c.args.buffer.now.items) 4096 c.args.buffer.now.len
    c.split_at_mut-chunk.ensures.front_len len)
    c.read.ensures.bytes
