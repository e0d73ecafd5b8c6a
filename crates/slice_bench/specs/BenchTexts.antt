-- Texts of the program: the lines of errors, and the names of measurements.
use Rattle.std.specs.Prelude.{ℕ, List, codes}
use Rattle.slice_bench.specs.declared.bench_error.BenchError.{BenchError}
use Rattle.slice_bench.specs.declared.bench_error.BenchError.TheVariants as error
use Rattle.slice_bench.specs.declared.measure.Measurement.{Measurement}
use Rattle.slice_bench.specs.declared.measure.Measurement.TheVariants as measurement

-- the line for standard error, without its line feed
abbrev pub error_line : BenchError → List ℕ
error_line error.Usage = codes "usage: slice_bench FILE [ROUNDS [MEASUREMENT]]"
error_line error.File = codes "slice_bench: the file can't be read"
error_line error.Cut = codes "slice_bench: the last frame of the file is cut"
error_line error.OutOfMemory = codes "slice_bench: out of memory"
error_line error.Clock = codes "slice_bench: the clock can't be read"
error_line error.Unsteady = codes "slice_bench: two rounds gave two sums"
error_line error.Output = codes "slice_bench: write failed"

-- the name of a measurement, as an argument and in the first column
abbrev pub measurement_name : Measurement → List ℕ
measurement_name measurement.Slicing = codes "slicing"
measurement_name measurement.SlicingNotInlined = codes "slicing-apart"
measurement_name measurement.Filling = codes "filling"
measurement_name measurement.LaxFilling = codes "lax-filling"
measurement_name measurement.Decoding = codes "decoding"
measurement_name measurement.Rereading = codes "rereading"
measurement_name measurement.SlicingIpv4 = codes "ipv4-slice"
measurement_name measurement.ReadingIpHeaders = codes "ip-headers"
measurement_name measurement.Building = codes "building"
measurement_name measurement.BuildingFromAddresses = codes "building-from-addresses"
measurement_name measurement.BuildingWithSize = codes "building-with-size"
measurement_name measurement.Reassembly = codes "reassembly"
measurement_name measurement.Bounded = codes "bounded"
measurement_name measurement.BoundedByDefault = codes "bounded-by-default"
measurement_name measurement.FilteringPort = codes "filtering-port"
measurement_name measurement.FilteringHost = codes "filtering-host"
measurement_name measurement.FilteringNet = codes "filtering-net"
measurement_name measurement.FilteringTerms = codes "filtering-terms"
measurement_name measurement.FilteringFlags = codes "filtering-flags"
measurement_name measurement.FilteringHosts = codes "filtering-hosts"
measurement_name measurement.Verdicts = codes "verdicts"
measurement_name measurement.Summing = codes "summing"
