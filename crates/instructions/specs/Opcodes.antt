-- docs/RULES.md, 9.1, whose table is docs/INSTRUCTIONS.md: "the place of the name in Table 3.1 of source document 001, from LD = 0 to
-- TREEPUT = 40 (SUB is 4, as printed)"
use Rattle.std.specs.Prelude.{ℕ, Bool, false, ◌||◌, List, [], ◌∷◌, ltb, eqb}

abbrev pub LD : ℕ
LD = 0

abbrev pub ST : ℕ
ST = 1

abbrev pub LI : ℕ
LI = 2

abbrev pub ADD : ℕ
ADD = 3

abbrev pub SUB : ℕ
SUB = 4

abbrev pub MUL : ℕ
MUL = 5

abbrev pub MULF : ℕ
MULF = 6

abbrev pub RECP : ℕ
RECP = 7

abbrev pub AND : ℕ
AND = 8

abbrev pub OR : ℕ
OR = 9

abbrev pub XOR : ℕ
XOR = 10

abbrev pub NOT : ℕ
NOT = 11

abbrev pub LSL : ℕ
LSL = 12

abbrev pub LSR : ℕ
LSR = 13

abbrev pub ASR : ℕ
ASR = 14

abbrev pub LSLI : ℕ
LSLI = 15

abbrev pub LSRI : ℕ
LSRI = 16

abbrev pub ASRI : ℕ
ASRI = 17

abbrev pub JMP : ℕ
JMP = 18

abbrev pub CALL : ℕ
CALL = 19

abbrev pub JEQ : ℕ
JEQ = 20

abbrev pub JEQL : ℕ
JEQL = 21

abbrev pub JNE : ℕ
JNE = 22

abbrev pub JNEL : ℕ
JNEL = 23

abbrev pub JLT : ℕ
JLT = 24

abbrev pub JLTL : ℕ
JLTL = 25

abbrev pub JLE : ℕ
JLE = 26

abbrev pub JLEL : ℕ
JLEL = 27

abbrev pub JGT : ℕ
JGT = 28

abbrev pub JGTL : ℕ
JGTL = 29

abbrev pub JGE : ℕ
JGE = 30

abbrev pub JGEL : ℕ
JGEL = 31

abbrev pub DOT : ℕ
DOT = 32

abbrev pub READ : ℕ
READ = 33

abbrev pub WRITE : ℕ
WRITE = 34

abbrev pub SCRSET : ℕ
SCRSET = 35

abbrev pub CLS : ℕ
CLS = 36

abbrev pub TREESET : ℕ
TREESET = 37

abbrev pub TREEIN : ℕ
TREEIN = 38

abbrev pub TREEVAL : ℕ
TREEVAL = 39

abbrev pub TREEPUT : ℕ
TREEPUT = 40

-- An edition of the machine is the list of opcodes that it has retired. 01's has retired none.
abbrev pub Edition : Type 0
Edition = List ℕ

abbrev pub current : Edition
current = []

unfoldable pub is_retired : Edition → ℕ → Bool
is_retired [] op = false
is_retired (old ∷ others) op = eqb op old || is_retired others op

-- "opcode above 40"
unfoldable pub no_instruction : Edition → ℕ → Bool
no_instruction edition op = is_retired edition op || ltb TREEPUT op
