-- The typed form of each conversion and operator, worked by hand from C99 6.3 and 6.5.
use Prim.Native.String.{String}
use Rattle.std.proofs.Common.{◌≡◌, ℕ, List, [], ◌∷◌, ◌++◌, map, refl, Some, Option, codes}
use Rattle.cp_base.specs.declared.op.Kind.TheVariants as access
use Rattle.cp_base.specs.declared.op.To.TheVariants as to
use Rattle.c_types.specs.declared.tree.COp.TheVariants as op
use Rattle.c_types.specs.declared.tree.Expr.{Expr}
use Rattle.c_types.specs.Forms.{const, address, local, set_local, load, store, binary, convert, both, either, choose, seq, call, get_char, put_char, copy, an_expr, no_exprs}
use Rattle.c_typing.proofs.Texts.{code_in}

-- the objects g, h, s, t, r, i8, i16, u16, tb and gp have the numbers 0 to 9, a literal 10; the parameters are the locals 0 to 7
abbrev before : List ℕ
before = codes "static int g;static char h;struct p{char c;int x;};static struct p s,t;static int r[4];static signed char i8;" ++ codes "static short i16;static unsigned short u16;static _Bool tb;static int*gp;enum{A=5};int getchar(void);int putchar(int c);int k(int a,char b){return a;}"
    ++ codes "int f(int a,unsigned u,char c,short d,long l,int*p,char*q,_Bool b){"

abbrev behind : List ℕ
behind = codes ";return 0;}int main(void){return 0;}"

-- an expression, and its code
abbrev Row : Type 0
Row = String × Expr

unfoldable found : Row → Option Expr
unfolding code_in
found row = code_in (before ++ codes row.0 ++ behind)

abbrev expected : Row → Option Expr
expected row = Some row.1

abbrev Hold : List Row → Type 0
Hold rows = map found rows ≡ map expected rows

-- conversions to a type of one's own (6.3.1.2, 6.3.1.3)
abbrev conversions : List Row
conversions =
    ("c=a", set_local 2 (convert to.U8 (local 0))) ∷
    ("d=a", set_local 3 (convert to.I16 (local 0))) ∷
    ("b=a", set_local 7 (convert to.Truth (local 0))) ∷
    ("b=p", set_local 7 (convert to.Truth (local 5))) ∷
    ("c=c", set_local 2 (local 2)) ∷
    ("a=c", set_local 0 (local 2)) ∷
    ("u=a", set_local 1 (local 0)) ∷
    ("l=d", set_local 4 (local 3)) ∷
    ("(signed char)a", convert to.I8 (local 0)) ∷
    ("(unsigned short)a", convert to.U16 (local 0)) ∷
    ("(unsigned char)c", convert to.U8 (local 2)) ∷
    ("(unsigned long)a", local 0) ∷
    ("(char)p", convert to.U8 (local 5)) ∷
    ("(int)p", local 5) ∷
    ("(int*)a", local 0) ∷
    ("(void)g", load access.W32 (address 0 0)) ∷
    ("p=0", set_local 5 (const 0)) ∷
    ("q=(void*)p", set_local 6 (local 5)) ∷ []

conversions_hold : Hold conversions
unfolding found
conversions_hold = refl

-- lvalues that are read (6.3.2.1)
abbrev lvalues : List Row
lvalues =
    ("g", load access.W32 (address 0 0)) ∷
    ("h", load access.U8 (address 1 0)) ∷
    ("i8", load access.I8 (address 5 0)) ∷
    ("i16", load access.I16 (address 6 0)) ∷
    ("u16", load access.U16 (address 7 0)) ∷
    ("tb", load access.U8 (address 8 0)) ∷
    ("gp", load access.W32 (address 9 0)) ∷
    ("r", address 4 0) ∷
    ("s", address 2 0) ∷
    ("a", local 0) ∷
    ("A", const 5) ∷
    ("'a'", const 97) ∷
    ("\"abc\"", address 10 0) ∷
    ("(a)", local 0) ∷ []

lvalues_hold : Hold lvalues
unfolding found
lvalues_hold = refl

-- operators on integers, with and without a sign (6.5.5 to 6.5.12)
abbrev operators : List Row
operators =
    ("a*a", binary op.MulS (local 0) (local 0)) ∷
    ("a*u", binary op.MulU (local 0) (local 1)) ∷
    ("a/a", binary op.DivS (local 0) (local 0)) ∷
    ("a/u", binary op.DivU (local 0) (local 1)) ∷
    ("a%a", binary op.RemS (local 0) (local 0)) ∷
    ("a%u", binary op.RemU (local 0) (local 1)) ∷
    ("a+a", binary op.AddS (local 0) (local 0)) ∷
    ("a+u", binary op.AddU (local 0) (local 1)) ∷
    ("a-a", binary op.SubS (local 0) (local 0)) ∷
    ("a-u", binary op.SubU (local 0) (local 1)) ∷
    ("c*d", binary op.MulS (local 2) (local 3)) ∷
    ("l+u", binary op.AddU (local 4) (local 1)) ∷
    ("l+c", binary op.AddS (local 4) (local 2)) ∷
    ("a<<u", binary op.ShlS (local 0) (local 1)) ∷
    ("u<<a", binary op.ShlU (local 1) (local 0)) ∷
    ("c<<u", binary op.ShlS (local 2) (local 1)) ∷
    ("a>>u", binary op.ShrS (local 0) (local 1)) ∷
    ("u>>a", binary op.ShrU (local 1) (local 0)) ∷
    ("c>>u", binary op.ShrS (local 2) (local 1)) ∷
    ("a<a", binary op.LtS (local 0) (local 0)) ∷
    ("a<u", binary op.LtU (local 0) (local 1)) ∷
    ("p<p", binary op.LtU (local 5) (local 5)) ∷
    ("a<=a", binary op.LeS (local 0) (local 0)) ∷
    ("a<=u", binary op.LeU (local 0) (local 1)) ∷
    ("p<=p", binary op.LeU (local 5) (local 5)) ∷
    ("a>a", binary op.GtS (local 0) (local 0)) ∷
    ("a>u", binary op.GtU (local 0) (local 1)) ∷
    ("p>p", binary op.GtU (local 5) (local 5)) ∷
    ("a>=a", binary op.GeS (local 0) (local 0)) ∷
    ("a>=u", binary op.GeU (local 0) (local 1)) ∷
    ("p>=p", binary op.GeU (local 5) (local 5)) ∷
    ("a==u", binary op.Eq (local 0) (local 1)) ∷
    ("a!=u", binary op.Ne (local 0) (local 1)) ∷
    ("a&u", binary op.And (local 0) (local 1)) ∷
    ("a^u", binary op.Xor (local 0) (local 1)) ∷
    ("a|u", binary op.Or (local 0) (local 1)) ∷
    ("p==0", binary op.Eq (local 5) (const 0)) ∷
    ("p==(void*)0", binary op.Eq (local 5) (const 0)) ∷
    ("-a", binary op.SubS (const 0) (local 0)) ∷
    ("-u", binary op.SubU (const 0) (local 1)) ∷
    ("-c", binary op.SubS (const 0) (local 2)) ∷
    ("+c", local 2) ∷
    ("~a", binary op.Xor (local 0) (const 4294967295)) ∷
    ("!a", binary op.Eq (local 0) (const 0)) ∷
    ("!p", binary op.Eq (local 5) (const 0)) ∷ []

operators_hold : Hold operators
unfolding found
operators_hold = refl

-- `&&`, `||`, `?:` and `,` (6.5.13 to 6.5.17)
abbrev choices : List Row
choices =
    ("a&&p", both (local 0) (local 5)) ∷
    ("a||p", either (local 0) (local 5)) ∷
    ("a?c:u", choose (local 0) (local 2) (local 1)) ∷
    ("a?p:0", choose (local 0) (local 5) (const 0)) ∷
    ("a,p", seq (local 0) (local 5)) ∷
    ("a?s:t", choose (local 0) (address 2 0) (address 3 0)) ∷
    ("(a,s).x", load access.W32 (binary op.AddU (seq (local 0) (address 2 0)) (const 4))) ∷ []

choices_hold : Hold choices
unfolding found
choices_hold = refl

-- pointers (6.5.2.1, 6.5.3.2, 6.5.6): an index is multiplied by the size, also by 1
abbrev pointers : List Row
pointers =
    ("p+a", binary op.AddU (local 5) (binary op.MulU (local 0) (const 4))) ∷
    ("a+p", binary op.AddU (binary op.MulU (local 0) (const 4)) (local 5)) ∷
    ("q+a", binary op.AddU (local 6) (binary op.MulU (local 0) (const 1))) ∷
    ("p-a", binary op.SubU (local 5) (binary op.MulU (local 0) (const 4))) ∷
    ("p-p", binary op.DivS (binary op.SubU (local 5) (local 5)) (const 4)) ∷
    ("q-q", binary op.DivS (binary op.SubU (local 6) (local 6)) (const 1)) ∷
    ("p[a]", load access.W32 (binary op.AddU (local 5) (binary op.MulU (local 0) (const 4)))) ∷
    ("a[p]", load access.W32 (binary op.AddU (binary op.MulU (local 0) (const 4)) (local 5))) ∷
    ("r[1]", load access.W32 (binary op.AddU (address 4 0) (binary op.MulU (const 1) (const 4)))) ∷
    ("*p", load access.W32 (local 5)) ∷
    ("*q", load access.U8 (local 6)) ∷
    ("&*p", local 5) ∷
    ("&p[a]", binary op.AddU (local 5) (binary op.MulU (local 0) (const 4))) ∷
    ("&r", address 4 0) ∷
    ("*r", load access.W32 (address 4 0)) ∷ []

pointers_hold : Hold pointers
unfolding found
pointers_hold = refl

-- members: the offset is added, also 0 (6.5.2.3)
abbrev members : List Row
members =
    ("s.c", load access.U8 (binary op.AddU (address 2 0) (const 0))) ∷
    ("s.x", load access.W32 (binary op.AddU (address 2 0) (const 4))) ∷
    ("(&s)->x", load access.W32 (binary op.AddU (address 2 0) (const 4))) ∷
    ("&s.x", binary op.AddU (address 2 0) (const 4)) ∷ []

members_hold : Hold members
unfolding found
members_hold = refl

-- sizes (6.5.3.4)
abbrev sizes : List Row
sizes =
    ("sizeof a", const 4) ∷
    ("sizeof c", const 1) ∷
    ("sizeof r", const 16) ∷
    ("sizeof s", const 8) ∷
    ("sizeof \"abc\"", const 4) ∷
    ("sizeof(char*)", const 4) ∷
    ("sizeof(c+c)", const 4) ∷
    ("sizeof(short[3])", const 6) ∷
    ("sizeof g++", const 4) ∷ []

sizes_hold : Hold sizes
unfolding found
sizes_hold = refl

-- assignment (6.5.16)
abbrev assignments : List Row
assignments =
    ("g=a", store access.W32 (address 0 0) (local 0)) ∷
    ("h=a", store access.U8 (address 1 0) (convert to.U8 (local 0))) ∷
    ("i8=a", store access.I8 (address 5 0) (convert to.I8 (local 0))) ∷
    ("tb=p", store access.U8 (address 8 0) (convert to.Truth (local 5))) ∷
    ("gp=r", store access.W32 (address 9 0) (address 4 0)) ∷
    ("p[a]=u", store access.W32 (binary op.AddU (local 5) (binary op.MulU (local 0) (const 4))) (local 1)) ∷
    ("s=t", copy 8 4 (address 2 0) (address 3 0)) ∷
    ("(s=t).x", load access.W32 (binary op.AddU (copy 8 4 (address 2 0) (address 3 0)) (const 4))) ∷
    ("a=c=u", set_local 0 (set_local 2 (convert to.U8 (local 1)))) ∷
    ("a+=u", set_local 0 (binary op.AddU (local 0) (local 1))) ∷
    ("c+=a", set_local 2 (convert to.U8 (binary op.AddS (local 2) (local 0)))) ∷
    ("a<<=u", set_local 0 (binary op.ShlS (local 0) (local 1))) ∷
    ("a%=a", set_local 0 (binary op.RemS (local 0) (local 0))) ∷
    ("a-=a", set_local 0 (binary op.SubS (local 0) (local 0))) ∷
    ("a*=u", set_local 0 (binary op.MulU (local 0) (local 1))) ∷
    ("a/=a", set_local 0 (binary op.DivS (local 0) (local 0))) ∷
    ("a>>=u", set_local 0 (binary op.ShrS (local 0) (local 1))) ∷
    ("u>>=a", set_local 1 (binary op.ShrU (local 1) (local 0))) ∷
    ("a&=u", set_local 0 (binary op.And (local 0) (local 1))) ∷
    ("a|=u", set_local 0 (binary op.Or (local 0) (local 1))) ∷
    ("a^=u", set_local 0 (binary op.Xor (local 0) (local 1))) ∷
    ("u16=a", store access.U16 (address 7 0) (convert to.U16 (local 0))) ∷
    ("tb+=a", seq (set_local 8 (address 8 0)) (store access.U8 (local 8) (convert to.Truth (binary op.AddS (load access.U8 (local 8)) (local 0))))) ∷
    ("p+=a", set_local 5 (binary op.AddU (local 5) (binary op.MulU (local 0) (const 4)))) ∷
    ("p-=a", set_local 5 (binary op.SubU (local 5) (binary op.MulU (local 0) (const 4)))) ∷
    ("g+=a", seq (set_local 8 (address 0 0)) (store access.W32 (local 8) (binary op.AddS (load access.W32 (local 8)) (local 0)))) ∷
    ("h^=a", seq (set_local 8 (address 1 0)) (store access.U8 (local 8) (convert to.U8 (binary op.Xor (load access.U8 (local 8)) (local 0))))) ∷ []

assignments_hold : Hold assignments
unfolding found
assignments_hold = refl

-- `++` and `--` (6.5.2.4, 6.5.3.1): behind its operand, on a local one hidden local, in memory two: the address, then the old value
abbrev steps : List Row
steps =
    ("++a", set_local 0 (binary op.AddS (local 0) (const 1))) ∷
    ("--u", set_local 1 (binary op.SubU (local 1) (const 1))) ∷
    ("++c", set_local 2 (convert to.U8 (binary op.AddS (local 2) (const 1)))) ∷
    ("++p", set_local 5 (binary op.AddU (local 5) (binary op.MulU (const 1) (const 4)))) ∷
    ("--q", set_local 6 (binary op.SubU (local 6) (binary op.MulU (const 1) (const 1)))) ∷
    ("++g", seq (set_local 8 (address 0 0)) (store access.W32 (local 8) (binary op.AddS (load access.W32 (local 8)) (const 1)))) ∷
    ("a++", seq (set_local 8 (local 0)) (seq (set_local 0 (binary op.AddS (local 8) (const 1))) (local 8))) ∷
    ("c--", seq (set_local 8 (local 2)) (seq (set_local 2 (convert to.U8 (binary op.SubS (local 8) (const 1)))) (local 8))) ∷
    ("p++", seq (set_local 8 (local 5)) (seq (set_local 5 (binary op.AddU (local 8) (binary op.MulU (const 1) (const 4)))) (local 8))) ∷
    ("b++", seq (set_local 8 (local 7)) (seq (set_local 7 (convert to.Truth (binary op.AddS (local 8) (const 1)))) (local 8))) ∷
    ("g++", seq (set_local 8 (address 0 0)) (seq (set_local 9 (load access.W32 (local 8))) (seq (store access.W32 (local 8) (binary op.AddS (local 9) (const 1))) (local 9)))) ∷
    ("a+++g++", binary op.AddS (seq (set_local 8 (local 0)) (seq (set_local 0 (binary op.AddS (local 8) (const 1))) (local 8))) (seq (set_local 9 (address 0 0)) (seq (set_local 10 (load access.W32 (local 9))) (seq (store access.W32 (local 9) (binary op.AddS (local 10) (const 1))) (local 10))))) ∷ []

steps_hold : Hold steps
unfolding found
steps_hold = refl

-- calls (6.5.2.2)
abbrev calls : List Row
calls =
    ("k(u,a)", call 0 (tt ∷ tt ∷ []) (an_expr (local 1) (an_expr (convert to.U8 (local 0)) no_exprs))) ∷
    ("(k)(a,c)", call 0 (tt ∷ tt ∷ []) (an_expr (local 0) (an_expr (local 2) no_exprs))) ∷
    ("getchar()", get_char) ∷
    ("putchar(c)", put_char (local 2)) ∷
    ("putchar(A)", put_char (const 5)) ∷ []

calls_hold : Hold calls
unfolding found
calls_hold = refl
