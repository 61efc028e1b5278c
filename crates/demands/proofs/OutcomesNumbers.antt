-- One outcome of every public function of numbers, by its own promise (`Post`, the function's `ensures`).
use Rattle.demands.specs.Outcome.{OneOutcome}
use Rattle.demands.proofs.Outcome.{determined}
use Rattle.numbers.proofs.bits
use Rattle.numbers.proofs.clamp
use Rattle.numbers.proofs.entries

pub «bits::bits» : OneOutcome bits.bits.Reads.Post
«bits::bits» κs args r r' e e' = determined

-- at every type T that the function takes: its laws, how it is copied, and what each of its bounds gives, with the code
pub «numbers::clamp» :
    (T : _) (laws : _) (copied : _) (ord : _) (ord_code : _) (eq : _) (eq_code : _) (partial_eq : _) (partial_eq_code : _)
    (partial_ord : _) (partial_ord_code : _) (clone : _) (clone_code : _) →
    OneOutcome (clamp.Reads.Post T laws copied ord ord_code eq eq_code partial_eq partial_eq_code partial_ord partial_ord_code clone clone_code)
«numbers::clamp» T laws copied ord ord_code eq eq_code partial_eq partial_eq_code partial_ord partial_ord_code clone clone_code κs args r r' e e' =
    determined

-- and at every length n
pub entries::entry_or :
    (T : _) (n : _) (laws : _) (fits_n : _) (copied : _) (clone : _) (clone_code : _) →
    OneOutcome (entries.entry_or.Reads.Post T n laws fits_n copied clone clone_code)
entries::entry_or T n laws fits_n copied clone clone_code κs args r r' e e' = determined

pub entries::stored_at :
    (T : _) (n : _) (laws : _) (fits_n : _) (copied : _) (clone : _) (clone_code : _) →
    OneOutcome (entries.stored_at.Reads.Post T n laws fits_n copied clone clone_code)
entries::stored_at T n laws fits_n copied clone clone_code κs args r r' e e' = determined
