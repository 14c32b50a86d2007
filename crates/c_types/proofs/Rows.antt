-- Worked rows, computed from the definitions. The values are worked by hand from C99 6.7.2.1 and the sizes of ILP32.
use Rattle.std.proofs.Common.{◌≡◌, ℕ, List, [], ◌∷◌, ◌++◌, refl, replicate, codes}
use Rattle.c_types.specs.declared.kind.Measure.{Measure}
use Rattle.c_types.specs.declared.tree.Object.{Object}
use Rattle.c_types.specs.declared.tree.Cell.{Cell}
use Rattle.c_types.specs.declared.tree.CellValue.TheVariants.{Number, Address}
use Rattle.c_types.specs.InOrder.{offsets}
use Rattle.c_types.specs.Sizes.{array_measure, struct_measure}
use Rattle.c_types.specs.Placing.{data_size, image}

abbrev sized : ℕ → ℕ → Measure
sized size align = record { size = size; align = align }

abbrev char : Measure
char = sized 1 1

abbrev short : Measure
short = sized 2 2

abbrev int : Measure
int = sized 4 4

abbrev long : Measure
long = sized 4 4

abbrev pointer : Measure
pointer = sized 4 4

abbrev bool : Measure
bool = sized 1 1

-- struct { char c; int i; short s; }
struct_size : struct_measure (char ∷ int ∷ short ∷ []) ≡ sized 12 4
struct_size = refl

struct_size_offsets : offsets (char ∷ int ∷ short ∷ []) ≡ 0 ∷ 4 ∷ 8 ∷ []
struct_size_offsets = refl

-- struct { char c; }
one_char : struct_measure (char ∷ []) ≡ sized 1 1
one_char = refl

one_char_offsets : offsets (char ∷ []) ≡ 0 ∷ []
one_char_offsets = refl

-- struct { char a, b, c; }
three_chars : struct_measure (char ∷ char ∷ char ∷ []) ≡ sized 3 1
three_chars = refl

three_chars_offsets : offsets (char ∷ char ∷ char ∷ []) ≡ 0 ∷ 1 ∷ 2 ∷ []
three_chars_offsets = refl

-- struct { char c; short s; }
char_short : struct_measure (char ∷ short ∷ []) ≡ sized 4 2
char_short = refl

char_short_offsets : offsets (char ∷ short ∷ []) ≡ 0 ∷ 2 ∷ []
char_short_offsets = refl

-- struct { short s; char c; }
short_char : struct_measure (short ∷ char ∷ []) ≡ sized 4 2
short_char = refl

short_char_offsets : offsets (short ∷ char ∷ []) ≡ 0 ∷ 2 ∷ []
short_char_offsets = refl

-- struct { char c; int i; }
char_int : struct_measure (char ∷ int ∷ []) ≡ sized 8 4
char_int = refl

char_int_offsets : offsets (char ∷ int ∷ []) ≡ 0 ∷ 4 ∷ []
char_int_offsets = refl

-- struct { int i; char c; }
int_char : struct_measure (int ∷ char ∷ []) ≡ sized 8 4
int_char = refl

int_char_offsets : offsets (int ∷ char ∷ []) ≡ 0 ∷ 4 ∷ []
int_char_offsets = refl

-- struct { char c; short s; int i; }
char_short_int : struct_measure (char ∷ short ∷ int ∷ []) ≡ sized 8 4
char_short_int = refl

char_short_int_offsets : offsets (char ∷ short ∷ int ∷ []) ≡ 0 ∷ 2 ∷ 4 ∷ []
char_short_int_offsets = refl

-- struct { char a; int i; char b; }
char_int_char : struct_measure (char ∷ int ∷ char ∷ []) ≡ sized 12 4
char_int_char = refl

char_int_char_offsets : offsets (char ∷ int ∷ char ∷ []) ≡ 0 ∷ 4 ∷ 8 ∷ []
char_int_char_offsets = refl

-- struct { short a; int i; short b; }
short_int_short : struct_measure (short ∷ int ∷ short ∷ []) ≡ sized 12 4
short_int_short = refl

short_int_short_offsets : offsets (short ∷ int ∷ short ∷ []) ≡ 0 ∷ 4 ∷ 8 ∷ []
short_int_short_offsets = refl

-- struct node { int value; struct node *next; }
list_node : struct_measure (int ∷ pointer ∷ []) ≡ sized 8 4
list_node = refl

list_node_offsets : offsets (int ∷ pointer ∷ []) ≡ 0 ∷ 4 ∷ []
list_node_offsets = refl

-- struct { char a[5]; int i; }
five_chars_int : struct_measure (array_measure 5 char ∷ int ∷ []) ≡ sized 12 4
five_chars_int = refl

five_chars_int_offsets : offsets (array_measure 5 char ∷ int ∷ []) ≡ 0 ∷ 8 ∷ []
five_chars_int_offsets = refl

-- struct { short a[3]; char c; int i; }
three_shorts_char_int : struct_measure (array_measure 3 short ∷ char ∷ int ∷ []) ≡ sized 12 4
three_shorts_char_int = refl

three_shorts_char_int_offsets : offsets (array_measure 3 short ∷ char ∷ int ∷ []) ≡ 0 ∷ 6 ∷ 8 ∷ []
three_shorts_char_int_offsets = refl

-- struct { _Bool a, b; short s; }
bool_bool_short : struct_measure (bool ∷ bool ∷ short ∷ []) ≡ sized 4 2
bool_bool_short = refl

bool_bool_short_offsets : offsets (bool ∷ bool ∷ short ∷ []) ≡ 0 ∷ 1 ∷ 2 ∷ []
bool_bool_short_offsets = refl

-- struct { char c; char *p[2]; char d; }
pointers : struct_measure (char ∷ array_measure 2 pointer ∷ char ∷ []) ≡ sized 16 4
pointers = refl

pointers_offsets : offsets (char ∷ array_measure 2 pointer ∷ char ∷ []) ≡ 0 ∷ 4 ∷ 12 ∷ []
pointers_offsets = refl

-- struct { char a[7]; long l; }
long_at_end : struct_measure (array_measure 7 char ∷ long ∷ []) ≡ sized 12 4
long_at_end = refl

long_at_end_offsets : offsets (array_measure 7 char ∷ long ∷ []) ≡ 0 ∷ 8 ∷ []
long_at_end_offsets = refl

-- struct { short s; char d; }
inner : struct_measure (short ∷ char ∷ []) ≡ sized 4 2
inner = refl

inner_offsets : offsets (short ∷ char ∷ []) ≡ 0 ∷ 2 ∷ []
inner_offsets = refl

-- struct { char c; struct { short s; char d; } in; char e[3]; int i; }
nested : struct_measure (char ∷ struct_measure (short ∷ char ∷ []) ∷ array_measure 3 char ∷ int ∷ []) ≡ sized 16 4
nested = refl

nested_offsets : offsets (char ∷ struct_measure (short ∷ char ∷ []) ∷ array_measure 3 char ∷ int ∷ []) ≡ 0 ∷ 2 ∷ 6 ∷ 12 ∷ []
nested_offsets = refl

-- struct { char c; struct { char c; int i; short s; } in[2]; char d; }
structs : struct_measure (char ∷ array_measure 2 (struct_measure (char ∷ int ∷ short ∷ [])) ∷ char ∷ []) ≡ sized 32 4
structs = refl

structs_offsets : offsets (char ∷ array_measure 2 (struct_measure (char ∷ int ∷ short ∷ [])) ∷ char ∷ []) ≡ 0 ∷ 4 ∷ 28 ∷ []
structs_offsets = refl

-- struct { struct { char a[3]; } in[3]; short s; }
odd_structs : struct_measure (array_measure 3 (struct_measure (array_measure 3 char ∷ [])) ∷ short ∷ []) ≡ sized 12 2
odd_structs = refl

odd_structs_offsets : offsets (array_measure 3 (struct_measure (array_measure 3 char ∷ [])) ∷ short ∷ []) ≡ 0 ∷ 10 ∷ []
odd_structs_offsets = refl

-- char[10]
ten_chars : array_measure 10 char ≡ sized 10 1
ten_chars = refl

-- int[10]
ten_ints : array_measure 10 int ≡ sized 40 4
ten_ints = refl

-- int[2][3]
rows_of_ints : array_measure 2 (array_measure 3 int) ≡ sized 24 4
rows_of_ints = refl

-- an array of 5 struct { char c; short s; }
five_structs : array_measure 5 (struct_measure (char ∷ short ∷ [])) ≡ sized 20 2
five_structs = refl

-- char[16777216]
greatest : array_measure 16777216 char ≡ sized 16777216 1
greatest = refl

-- image-of-word-count: static const char blanks[] = " \t\n"; static unsigned counts[3];
abbrev byte : ℕ → ℕ → Cell
byte offset value = record { offset = offset; width = 1; value = Number value }

abbrev word_count : List Object
word_count =
    record { name = codes "blanks"; size = 4; align = 1; cells = byte 0 32 ∷ byte 1 9 ∷ byte 2 10 ∷ byte 3 0 ∷ [] }
    ∷ record { name = codes "counts"; size = 12; align = 4; cells = [] } ∷ []

word_count_size : data_size word_count ≡ 16
word_count_size = refl

word_count_image : (base : ℕ) → image word_count base ≡ (32 ∷ 9 ∷ 10 ∷ []) ++ replicate 13 0
word_count_image base = refl

-- static char c = 7; static char *p = &c + 258; at the address 0x01020304
abbrev pointing : List Object
pointing =
    record { name = codes "c"; size = 1; align = 1; cells = byte 0 7 ∷ [] }
    ∷ record { name = codes "p"; size = 4; align = 4; cells = record { offset = 0; width = 4; value = Address 0 258 } ∷ [] } ∷ []

pointing_image : image pointing 16909060 ≡ 7 ∷ 0 ∷ 0 ∷ 0 ∷ 6 ∷ 4 ∷ 2 ∷ 1 ∷ []
pointing_image = refl

-- the sum of an address is taken modulo 2 ^ 32
pointing_past : image pointing 4294967295 ≡ 7 ∷ 0 ∷ 0 ∷ 0 ∷ 1 ∷ 1 ∷ 0 ∷ 0 ∷ []
pointing_past = refl
