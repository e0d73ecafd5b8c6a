-- Answers for a known entry, and for a pool that is unchanged.
use Rattle.std.proofs.Common.{◌≡◌, ℕ, List, Option, Some, inl, refl, subst, sym}
use Rattle.etherparse.specs.LaxLayers.{LaxLayers}
use Rattle.etherparse.specs.Layers.{Layers}
use Rattle.etherparse.specs.Types.Entry.{Entry}
use Rattle.etherparse_c.specs.declared.packet.Packet.{Packet}
use Rattle.etherparse_c.specs.declared.pool.Pool.{Pool}
use Rattle.etherparse_c.specs.declared.state.State.{State}
use Rattle.etherparse_c.specs.LaxAnswers.{DescribesLax, IsLaxAnswer}
use Rattle.etherparse_c.specs.Places.{Describes}
use Rattle.etherparse_c.specs.PoolAnswers.{Changes, ReturnsNumber}
use Rattle.etherparse_c.specs.SliceAnswers.{IsSliceAnswer}

-- A described frame is an answer of `etherparse_2_slice` with status 0.
pub sliced : (first : Option Entry) (entry : Entry) (bytes : List ℕ) (layers : Layers) (packet : Packet)
    → first ≡ Some entry → Describes entry bytes layers packet → IsSliceAnswer first bytes 0 packet
sliced first entry bytes layers packet is describes =
    subst (λ (e : Option Entry). IsSliceAnswer e bytes 0 packet) (sym is) (inl (refl, (layers, describes)))

-- A described lax packet is an answer of `etherparse_2_slice_lax` with status 0.
pub read_laxly : (first : Option Entry) (entry : Entry) (bytes : List ℕ) (read : LaxLayers) (packet : Packet)
    → first ≡ Some entry → DescribesLax entry bytes read packet → IsLaxAnswer first bytes 0 packet
read_laxly first entry bytes read packet is describes =
    subst (λ (e : Option Entry). IsLaxAnswer e bytes 0 packet) (sym is) (inl (refl, (read, describes)))

-- A call that returns a number of an unchanged pool meets `Changes` with `ReturnsNumber`.
pub returns_number : {old new : Pool} {number_of : State → ℕ} {number : ℕ} (state : State)
    → Some state ≡ old.pointer.state → new.pointer.state ≡ Some state → number ≡ number_of state
    → Changes old new (ReturnsNumber number_of number)
returns_number state was is returned = record {
  before = state;
  after = state;
  was = sym was;
  is = is;
  step = record { same = refl; returned = returned };
}
