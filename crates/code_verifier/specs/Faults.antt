-- The refusal of bytes that can't be decoded.
use Rattle.mate_code.specs.declared.decoding.DecodeFault.{DecodeFault}
use Rattle.mate_code.specs.declared.decoding.DecodeFault.TheVariants.{BadOpcode, CutShort}
use Rattle.mate_code.specs.declared.fault.VerifyFault.{VerifyFault}
use Rattle.mate_code.specs.declared.fault.VerifyFault.TheVariants.{Decode}

abbrev pub decode_fault_of : DecodeFault → VerifyFault
decode_fault_of (BadOpcode place) = Decode place
decode_fault_of (CutShort place) = Decode place
