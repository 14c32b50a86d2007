-- Units that break several rules: a rule that is broken hides no other one that can be judged without the broken part.
use Rattle.std.proofs.Common.{List, [], ◌∷◌, refl}
use Rattle.c_typing.proofs.Texts.{Row, at, Hold, holds}

-- what is used without a definition, or declared in a block as a function, stands besides all else
abbrev pub beside_places : List Row
beside_places =
    ("int f(void);int*p;int main(void){p=f();return 0;}", at 17 "var f" 0 ∷ at 14 "call" 0 ∷ []) ∷
    ("extern int e;struct s{int a;}x;int main(void){return e+x;}", at 17 "var e" 0 ∷ at 13 "binary +" 0 ∷ []) ∷
    ("extern int x;static int y=x;int main(void){return 0;}", at 17 "var x" 0 ∷ at 8 "var x" 0 ∷ []) ∷
    ("int main(void){int y[2],f(void);return 0;}", at 2 "specs" 1 ∷ at 10 "array" 0 ∷ []) ∷
    ("int main(void){int x={1,2},f(void);return 0;}", at 2 "specs" 1 ∷ at 24 "braces" 0 ∷ []) ∷ []

beside_places_hold : Hold beside_places
unfolding holds
beside_places_hold = refl

-- a condition, and a fault in what it governs
abbrev pub beside_bodies : List Row
beside_bodies =
    ("struct s{int a;}x;int main(void){if(x)return y;return 0;}", at 4 "var y" 0 ∷ at 13 "if" 0 ∷ []) ∷
    ("struct s{int a;}x;int main(void){while(x)y;return 0;}", at 4 "var y" 0 ∷ at 13 "while" 0 ∷ []) ∷
    ("struct s{int a;}x;int main(void){do y;while(x);return 0;}", at 4 "var y" 0 ∷ at 13 "do" 0 ∷ []) ∷
    ("struct s{int a;}x;int main(void){for(;x;)y;return 0;}", at 4 "var y" 0 ∷ at 13 "for" 0 ∷ []) ∷
    ("int*p;int main(void){switch(p){case 1:return y;}return 0;}", at 4 "var y" 0 ∷ at 13 "switch" 0 ∷ []) ∷
    ("struct s{int a;}x;int main(void){return x?y:1;}", at 4 "var y" 0 ∷ at 13 "cond" 0 ∷ []) ∷ []

beside_bodies_hold : Hold beside_bodies
unfolding holds
beside_bodies_hold = refl

-- a list, and a fault in one of its parts
abbrev pub beside_parts : List Row
beside_parts =
    ("struct s{int a;char a;int b[0];};int main(void){return 0;}", at 7 "array" 0 ∷ at 3 "member" 1 ∷ []) ∷
    ("struct s{int a;};struct s{int b[0];};int main(void){return 0;}", at 7 "array" 0 ∷ at 3 "struct s" 1 ∷ []) ∷
    ("enum e{A};enum e{B=y};int main(void){return 0;}", at 4 "var y" 0 ∷ at 3 "enum e" 1 ∷ []) ∷
    ("static extern struct{int a[0];}x;int main(void){return 0;}", at 7 "array" 0 ∷ at 2 "specs" 1 ∷ []) ∷
    ("int f(int a,int b,int c,int d,int e,int g,int h,int i,int j[2][0]);int main(void){return 0;}", at 7 "array" 1 ∷ at 20 "takes" 0 ∷ []) ∷
    ("int x;int main(void){return x(y);}", at 4 "var y" 0 ∷ at 16 "call" 0 ∷ []) ∷
    ("int g(int a){return a;}int main(void){return g(1,y);}", at 4 "var y" 0 ∷ at 15 "call" 0 ∷ []) ∷
    ("static int a[1]={y,2};int main(void){return 0;}", at 4 "var y" 0 ∷ at 24 "braces" 0 ∷ []) ∷
    -- of two bodies of one tag the second is the one that begins later
    ("struct t{struct t{int a;}x;};int main(void){return 0;}", at 3 "struct t" 0 ∷ []) ∷ []

beside_parts_hold : Hold beside_parts
unfolding holds
beside_parts_hold = refl

-- a `_Bool` may be initialized by a null pointer, and by no other address
abbrev pub truth_of_pointers : List Row
truth_of_pointers =
    ("static _Bool b=(void*)0;int main(void){return 0;}", []) ∷
    ("static int x;static _Bool b=&x;int main(void){return 0;}", at 8 "unary &" 0 ∷ []) ∷ []

truth_of_pointers_hold : Hold truth_of_pointers
unfolding holds
truth_of_pointers_hold = refl
