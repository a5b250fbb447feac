-- Why a text is no capsule of a machine, as the program reports it.
use Rattle.std.specs.Prelude.{ℕ, List, codes}
use Rattle.capsule_codec.specs.declared.decoding.CapsuleFault.{CapsuleFault}
use Rattle.capsule_codec.specs.declared.decoding.CapsuleFault.TheVariants.{BadMagic, BadFormat, OtherVm, BadHandler, BadLength, BadVersion}
use Rattle.capsule_codec.specs.declared.hex_text.HexFault.{HexFault}
use Rattle.capsule_codec.specs.declared.hex_text.HexFault.TheVariants as hex
use Rattle.mate_code.specs.declared.fault.VerifyFault.{VerifyFault}
use Rattle.mate_code.specs.declared.fault.VerifyFault.TheVariants as verify
use Rattle.command_refusals.specs.LineEnds.{number_line}
use Rattle.command_refusals.specs.declared.capsule_cause.CapsuleCause.{CapsuleCause}
use Rattle.command_refusals.specs.declared.capsule_cause.CapsuleCause.TheVariants.{Digits, Image, Code}

abbrev pub digit_words : HexFault → List ℕ
digit_words hex.BadHex = codes "hex\n"
digit_words hex.TooLong = codes "length\n"

abbrev pub image_words : CapsuleFault → List ℕ
image_words BadMagic = codes "magic\n"
image_words BadFormat = codes "format\n"
image_words (OtherVm id) = codes "vm\n"
image_words BadHandler = codes "handler\n"
image_words BadLength = codes "length\n"
image_words BadVersion = codes "version\n"

-- no capsule has code that is too long
abbrev pub verify_words : VerifyFault → List ℕ
verify_words (verify.Decode place) = number_line (codes "decode ") place
verify_words (verify.BadTarget place) = number_line (codes "target ") place
verify_words (verify.BackJump place) = number_line (codes "back ") place
verify_words (verify.Underflow place) = number_line (codes "underflow ") place
verify_words (verify.Overflow place) = number_line (codes "overflow ") place
verify_words (verify.DepthDiffers place) = number_line (codes "differs ") place
verify_words (verify.BadIndex place) = number_line (codes "index ") place
verify_words verify.NoHalt = codes "nohalt\n"
verify_words (verify.TooLong len) = codes "length\n"

abbrev pub capsule_words : CapsuleCause → List ℕ
capsule_words (Digits f) = digit_words f
capsule_words (Image f) = image_words f
capsule_words (Code f) = verify_words f
