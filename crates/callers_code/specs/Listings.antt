-- The opcode tables of two machines, as text.
use Rattle.std.specs.Prelude.{ℕ, List, ◌++◌, codes, None}
use Rattle.vm_shape.specs.declared.function.Function.{Function}
use Rattle.vm_shape.specs.declared.function.FunKind.TheVariants.{Send}

-- a machine without buffers and functions
abbrev pub base_table : List ℕ
base_table =
    codes "00 HALT 0\n01 PUSHW 2\n02 PUSHB 1\n03 GETS 1\n04 SETS 1\n05 GETP 1\n"
    ++ codes "06 SETP 1\n07 ADD 0\n08 SUB 0\n09 MUL 0\n0a DIV 0\n0b MOD 0\n0c NEG 0\n0d NOT 0\n"
    ++ codes "0e AND 0\n0f OR 0\n10 EQ 0\n11 NE 0\n12 LT 0\n13 GT 0\n14 LE 0\n"
    ++ codes "15 GE 0\n16 JZ 2\n17 JMP 2\n18 BACK 2\n19 DROP 0\n1a MSGGET 0\n1b MSGSIZE 0\n"

-- a function that sends a buffer
abbrev pub sending : Function
sending = record { name = codes "send"; kind = Send; device = None; latency = 5 }

-- a machine with a buffer and this function
abbrev pub table_with_send : List ℕ
table_with_send = base_table ++ codes "1c BGET 1\n1d BSET 1\n1e BADD 1\n1f BTAKE 1\n20 BSIZE 1\n21 BCLEAR 1\n22 send 1\n"
