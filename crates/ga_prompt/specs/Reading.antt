-- What reads of single bytes tell.
use Rattle.std.specs.Prelude.{◌≡◌, ◌⊎◌, true}
use Rattle.ga_input.specs.declared.fault.ServeError.{ServeError}
use Rattle.ga_input.specs.declared.fault.ServeError.TheVariants.{Read}
use Rattle.ga_prompt.specs.declared.byte_reads.ByteReads.{ByteReads}

-- `Read` is answered only after a read failed that wasn't interrupted, or after 2^64 - 1 reads.
abbrev pub ReadFails : ByteReads → ServeError → Type 0
ReadFails reads fault = (fault ≡ Read) × ((reads.has_failed ≡ true) ⊎ (reads.left ≡ 0))
