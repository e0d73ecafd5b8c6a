use Rattle.std.proofs.Common.{◌≡◌, ◌∙◌, ◌+◌, ◌-◌, ◌*◌, ◌++◌, ◌/◌, ap, ℕ, List, length, replicate, drop, arith}
use Rattle.std.proofs.lemmas.List.{drop-replicate, length-append, length-drop}
use Rattle.ep_transport.proofs.TcpOptionLemmas.{cut_in_zeros}
use Rattle.ep_transport.proofs.tcp_options.TcpOptions.fill.Goals as goal

pub invariant_of-self : goal.invariant_of-self
invariant_of-self c =
    let n = length c.args.slice.now in
    let m = (n + 3) / 4 * 4 in
    let zeros : List ℕ = replicate 40 0 in
    let copied : length c.copy_from_slice.new.self ≡ n = ap length c.copy_from_slice.ensures.after in (
      omega (arith, length-append c.copy_from_slice.new.self (drop n zeros), length-drop n zeros, copied, c.requires),
      omega (arith, c.requires),
      omega arith,
      (cut_in_zeros c.copy_from_slice.new.self (drop n zeros) n m 40 copied (omega arith) (omega (arith, c.requires))
          (drop-replicate n 40 0)).1,
    )

pub returns : goal.returns
returns c =
    let n = length c.args.slice.now in
    let m = (n + 3) / 4 * 4 in
    let zeros : List ℕ = replicate 40 0 in
    let copied : length c.copy_from_slice.new.self ≡ n = ap length c.copy_from_slice.ensures.after in
    (cut_in_zeros c.copy_from_slice.new.self (drop n zeros) n m 40 copied (omega arith) (omega (arith, c.requires))
    (drop-replicate n 40 0)).0
    ∙ ap (λ (s : List ℕ). s ++ replicate (m - n) 0) c.copy_from_slice.ensures.after
