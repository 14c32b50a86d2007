-- Units that break a rule on declarations, and behind each its nearest neighbour that breaks none. The nodes are those that the rules name.
use Rattle.std.proofs.Common.{List, [], ◌∷◌, refl}
use Rattle.c_typing.proofs.Texts.{Row, at, breaks, keeps, Hold, holds}

-- rule 1, `bad type words`
abbrev pub rule_1 : List Row
rule_1 =
    breaks "const x;int main(void){return 0;}" 1 "specs" 0 ∷
    keeps "const int x;int main(void){return 0;}" ∷
    breaks "long long x;int main(void){return 0;}" 1 "specs" 0 ∷
    keeps "long unsigned int x;int main(void){return 0;}" ∷
    breaks "typedef int t;unsigned struct s{int a;} x;int main(void){return 0;}" 1 "specs" 2 ∷
    keeps "typedef int t;const t x;int main(void){return 0;}" ∷
    breaks "int f(void){return sizeof(const);}int main(void){return 0;}" 1 "specs" 1 ∷
    keeps "int f(void){return sizeof(const unsigned);}int main(void){return 0;}" ∷ []

rule_1_holds : Hold rule_1
unfolding holds
rule_1_holds = refl

-- rule 2, `bad storage class`
abbrev pub rule_2 : List Row
rule_2 =
    breaks "static extern int x;int main(void){return 0;}" 2 "specs" 0 ∷
    keeps "static int x;int main(void){return 0;}" ∷
    breaks "int main(void){extern int x;return 0;}" 2 "specs" 1 ∷
    keeps "int main(void){static int x;return 0;}" ∷
    breaks "int main(void){int f(void);return 0;}" 2 "specs" 1 ∷
    keeps "int main(void){int(*f)(void);return 0;}" ∷
    breaks "typedef int f(void);int main(void){f g;return 0;}" 2 "specs" 2 ∷
    keeps "typedef int f(void);f g;int main(void){return 0;}" ∷
    breaks "auto int x;int main(void){return 0;}" 2 "specs" 0 ∷
    keeps "int main(void){auto int x;return 0;}" ∷
    breaks "int f(static int a);int main(void){return 0;}" 2 "specs" 1 ∷
    keeps "int f(register int a);int main(void){return 0;}" ∷
    breaks "int main(void){for(static int i=0;;);return 0;}" 2 "specs" 1 ∷
    keeps "int main(void){for(register int i=0;;);return 0;}" ∷
    breaks "typedef int f(void){return 0;}int main(void){return 0;}" 2 "specs" 0 ∷
    keeps "static int f(void){return 0;}int main(void){return 0;}" ∷
    breaks "int x=sizeof(const static int);int main(void){return 0;}" 2 "specs" 1 ∷
    keeps "int x=sizeof(const int);int main(void){return 0;}" ∷ []

rule_2_holds : Hold rule_2
unfolding holds
rule_2_holds = refl

-- rule 3, `name declared twice`
abbrev pub rule_3 : List Row
rule_3 =
    breaks "int x;char x;int main(void){return 0;}" 3 "name x" 1 ∷
    keeps "int x;int x;int main(void){return 0;}" ∷
    breaks "int x=1;int x=2;int main(void){return 0;}" 3 "name x" 1 ∷
    keeps "int x=1;int x;int main(void){return 0;}" ∷
    breaks "int f(int a){int a;return 0;}int main(void){return 0;}" 3 "name a" 1 ∷
    keeps "int f(int a){{int a;}return 0;}int main(void){return 0;}" ∷
    breaks "struct s{int a;char a;};int main(void){return 0;}" 3 "member" 1 ∷
    keeps "struct s{int a;};struct t{char a;};int main(void){return 0;}" ∷
    breaks "struct s{int a;};struct s{int a;};int main(void){return 0;}" 3 "struct s" 1 ∷
    keeps "struct s;struct s{int a;};int main(void){return 0;}" ∷
    breaks "enum e{A};struct e*p;int main(void){return 0;}" 3 "struct e" 0 ∷
    keeps "enum e{A};void f(void){struct e;}int main(void){return 0;}" ∷
    breaks "int f(void){return 0;}int f(void){return 1;}int main(void){return 0;}" 3 "name f" 1 ∷
    keeps "int f(void);int f(void){return 1;}int f(void);int main(void){return 0;}" ∷
    breaks "int f(void);int f(int a);int main(void){return 0;}" 3 "name f" 1 ∷
    keeps "int f(int a);int f(int b);int main(void){return 0;}" ∷
    breaks "enum{A};int A;int main(void){return 0;}" 3 "name A" 0 ∷
    keeps "enum{A};void f(void){int A;}int main(void){return 0;}" ∷
    breaks "int A;enum{A};int main(void){return 0;}" 3 "enumer A" 0 ∷
    keeps "int A;void f(void){enum{A};}int main(void){return 0;}" ∷
    breaks "typedef int t;typedef int t;int main(void){return 0;}" 3 "name t" 1 ∷
    keeps "typedef int t;void f(void){typedef int t;}int main(void){return 0;}" ∷
    breaks "static int a[2];static int a[]={1};int main(void){return 0;}" 3 "name a" 1 ∷
    keeps "static int a[1];static int a[]={1};int main(void){return 0;}" ∷
    breaks "struct s{int a,a;};int main(void){return 0;}" 3 "member" 0 ∷
    keeps "struct s{int a,b;};int main(void){return 0;}" ∷
    breaks "enum s{A};struct s{int a;};int main(void){return 0;}" 3 "struct s" 0 ∷
    keeps "enum s{A};void f(void){struct s{int a;};}int main(void){return 0;}" ∷
    breaks "int x[2];extern int x[3];int main(void){return 0;}" 3 "name x" 1 ∷
    keeps "int x[2];extern int x[2];int main(void){return 0;}" ∷
    breaks "void f(void){static int a;static int a;}int main(void){return 0;}" 3 "name a" 1 ∷
    keeps "void f(void){static int a;{static int a;}}int main(void){return 0;}" ∷
    breaks "int f(int a,int a);int main(void){return 0;}" 3 "name a" 1 ∷
    keeps "int f(int a,int b);int main(void){return 0;}" ∷
    breaks "void f(void){enum{A};enum{A};}int main(void){return 0;}" 3 "enumer A" 1 ∷
    keeps "void f(void){enum{A};{enum{A};}}int main(void){return 0;}" ∷
    breaks "int f(void);int f;int main(void){return 0;}" 3 "name f" 1 ∷
    keeps "int f(void),g;int main(void){return 0;}" ∷ []

rule_3_holds : Hold rule_3
unfolding holds
rule_3_holds = refl

-- rule 4, `unknown name`
abbrev pub rule_4 : List Row
rule_4 =
    breaks "int main(void){return y;}" 4 "var y" 0 ∷
    keeps "int y;int main(void){return y;}" ∷
    breaks "int main(void){{int y;}return y;}" 4 "var y" 0 ∷
    keeps "int main(void){int y;{return y;}}" ∷
    breaks "enum e x;int main(void){return 0;}" 4 "enum e" 0 ∷
    keeps "enum e{A};enum e x;int main(void){return 0;}" ∷
    breaks "enum{A=A};int main(void){return 0;}" 4 "var A" 0 ∷
    keeps "enum{A,B=A};int main(void){return 0;}" ∷
    breaks "int(*f(int t))(int u){return u,(void*)0;}int main(void){return 0;}" 4 "var u" 0 ∷
    keeps "int(*f(int t))(int u){return t,(void*)0;}int main(void){return 0;}" ∷
    ("int main(void){return y+z;}", at 4 "var y" 0 ∷ at 4 "var z" 0 ∷ []) ∷
    keeps "int y,z;int main(void){return y+z;}" ∷
    breaks "int f(void){for(int i=0;i;);return i;}int main(void){return 0;}" 4 "var i" 1 ∷
    keeps "int f(void){int i=1;for(int i=0;i;);return i;}int main(void){return 0;}" ∷
    breaks "int f(void){int a=b,b=1;return a;}int main(void){return 0;}" 4 "var b" 0 ∷
    keeps "int f(void){int b=1,a=b;return a+sizeof a;}int main(void){return 0;}" ∷ []

rule_4_holds : Hold rule_4
unfolding holds
rule_4_holds = refl

-- rule 5, `incomplete type`
abbrev pub rule_5 : List Row
rule_5 =
    breaks "struct s x;int main(void){return 0;}" 5 "name x" 0 ∷
    keeps "struct s*x;int main(void){return 0;}" ∷
    breaks "void x;int main(void){return 0;}" 5 "name x" 0 ∷
    keeps "void*x;int main(void){return 0;}" ∷
    breaks "struct s{struct s t;};int main(void){return 0;}" 5 "name t" 0 ∷
    keeps "struct s{struct s*t;};int main(void){return 0;}" ∷
    breaks "static void a[2];int main(void){return 0;}" 5 "array" 0 ∷
    keeps "static void*a[2];int main(void){return 0;}" ∷
    breaks "int f(void*p){*p;return 0;}int main(void){return 0;}" 5 "unary *" 0 ∷
    keeps "int f(int*p){*p;return 0;}int main(void){return 0;}" ∷
    breaks "int(*f)(void);int main(void){return *f,0;}" 5 "unary *" 0 ∷
    keeps "int(*f)(void);int main(void){return f,0;}" ∷
    breaks "int x=sizeof(void);int main(void){return 0;}" 5 "typename" 0 ∷
    keeps "int x=sizeof(void*);int main(void){return 0;}" ∷
    breaks "static int a[]={sizeof a};int main(void){return 0;}" 5 "var a" 0 ∷
    keeps "static int a[]={sizeof a[0]};int main(void){return 0;}" ∷
    breaks "int f(void a);int main(void){return 0;}" 5 "name a" 0 ∷
    keeps "int f(void*a);int main(void){return 0;}" ∷
    breaks "int f(int a,void);int main(void){return 0;}" 5 "noname" 0 ∷
    keeps "int f(int a,void*);int main(void){return 0;}" ∷
    breaks "struct s*p;int main(void){return sizeof *p;}" 5 "unary *" 0 ∷
    keeps "struct s*p;int main(void){return sizeof p;}" ∷
    breaks "int f(void a[]);int main(void){return 0;}" 5 "array" 0 ∷
    keeps "int f(int[]);int main(void){return 0;}" ∷
    breaks "void f(void){}int main(void){return sizeof f();}" 5 "call" 0 ∷
    keeps "int f(void){return 0;}int main(void){return sizeof f();}" ∷
    breaks "extern struct s x;int main(void){return 0;}" 5 "name x" 0 ∷
    keeps "extern struct s*x;int main(void){return 0;}" ∷
    breaks "static struct s b[2];int main(void){return 0;}" 5 "array" 0 ∷
    keeps "struct s{int a;};static struct s b[2];int main(void){return 0;}" ∷
    breaks "typedef int f(void);int x=sizeof(f);int main(void){return 0;}" 5 "typename" 0 ∷
    keeps "typedef int f(void);int x=sizeof(f*);int main(void){return 0;}" ∷
    breaks "typedef int f(void);static f a[2];int main(void){return 0;}" 5 "array" 0 ∷
    keeps "typedef int f(void);static f*a[2];int main(void){return 0;}" ∷ []

rule_5_holds : Hold rule_5
unfolding holds
rule_5_holds = refl

-- rule 6, `no such member`
abbrev pub rule_6 : List Row
rule_6 =
    breaks "struct s{int a;}x;int main(void){return x.b;}" 6 "dot b" 0 ∷
    keeps "struct s{int a;}x;int main(void){return x.a;}" ∷
    breaks "int x;int main(void){return x.a;}" 6 "dot a" 0 ∷
    keeps "struct s{int b,a;}x;int main(void){return x.a;}" ∷
    breaks "struct s{int a;}*x;int main(void){return x->b;}" 6 "arrow b" 0 ∷
    keeps "struct s{int a;}*x;int main(void){return x->a;}" ∷
    breaks "struct t{int y;};int f(void){struct t*p=0;struct t{int x;};return p->x;}int main(void){return 0;}" 6 "arrow x" 0 ∷
    keeps "struct t{int y;};int f(void){struct t;struct t*p=0;struct t{int x;};return p->x;}int main(void){return 0;}" ∷
    breaks "struct t{int x;};int f(struct t*p){struct t{char c;}*q=0;return p->x+q->x;}int main(void){return 0;}" 6 "arrow x" 1 ∷
    keeps "struct t{int x;};int f(struct t*p){struct t{char c;}*q=0;return p->x+q->c;}int main(void){return 0;}" ∷
    ("struct t*p;int main(void){return p->x;}", at 6 "arrow x" 0 ∷ at 5 "arrow x" 0 ∷ []) ∷
    keeps "struct t*p;struct t{int x;};int main(void){return p->x;}" ∷ []

rule_6_holds : Hold rule_6
unfolding holds
rule_6_holds = refl

-- rule 7, `bad array length`
abbrev pub rule_7 : List Row
rule_7 =
    breaks "static int a[0];int main(void){return 0;}" 7 "array" 0 ∷
    keeps "static int a[1];int main(void){return 0;}" ∷
    breaks "static int a[-1];int main(void){return 0;}" 7 "array" 0 ∷
    keeps "static int a[- -1];int main(void){return 0;}" ∷
    breaks "static int a[];int main(void){return 0;}" 7 "array" 0 ∷
    keeps "static int a[]={1};int main(void){return 0;}" ∷
    breaks "extern int a[];int main(void){return 0;}" 7 "array" 0 ∷
    keeps "int f(int a[]);int main(void){return 0;}" ∷
    breaks "int(*p)[];int main(void){return 0;}" 7 "array" 0 ∷
    keeps "int(*p)[3];int main(void){return 0;}" ∷
    breaks "typedef int t[];int main(void){return 0;}" 7 "array" 0 ∷
    breaks "typedef int t[]={1};int main(void){return 0;}" 7 "array" 0 ∷
    keeps "typedef int t[1];int main(void){return 0;}" ∷
    breaks "int x=sizeof(int[]);int main(void){return 0;}" 7 "array" 0 ∷
    keeps "int x=sizeof(int[1]);int main(void){return 0;}" ∷
    breaks "int f(int a[3][]);int main(void){return 0;}" 7 "array" 1 ∷
    keeps "int f(int a[][3]);int main(void){return 0;}" ∷
    breaks "int f(int(*a)[]);int main(void){return 0;}" 7 "array" 0 ∷
    keeps "int f(int a[0]);int main(void){return 0;}" ∷ []

rule_7_holds : Hold rule_7
unfolding holds
rule_7_holds = refl
