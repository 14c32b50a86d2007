-- Units that break a rule on conversions, calls, functions, statements or initializers, and behind each its nearest neighbour that breaks none.
use Rattle.std.proofs.Common.{List, [], ◌∷◌, refl}
use Rattle.c_typing.proofs.Texts.{Row, at, breaks, keeps, Hold, holds}

-- rule 14, `bad conversion`
abbrev pub rule_14 : List Row
rule_14 =
    breaks "int*p;char*q;int main(void){p=q;return 0;}" 14 "var q" 0 ∷
    keeps "int*p;int*q;int main(void){p=q;return 0;}" ∷
    breaks "int*p;int main(void){p=1;return 0;}" 14 "int" 0 ∷
    keeps "int*p;int main(void){p=0;return 0;}" ∷
    breaks "int*p;int main(void){int x=p;return 0;}" 14 "var p" 0 ∷
    keeps "int*p;int main(void){_Bool x=p;return 0;}" ∷
    breaks "int f(int*p){return 0;}int main(void){return f(1);}" 14 "int" 1 ∷
    keeps "int f(int*p){return 0;}int main(void){return f((void*)0);}" ∷
    breaks "void f(void){}int main(void){return f();}" 14 "call" 0 ∷
    keeps "int f(void){return 1;}int main(void){return f();}" ∷
    breaks "struct s{int a;}x;struct t{int a;}y;int main(void){x=y;return 0;}" 14 "var y" 0 ∷
    keeps "struct s{int a;}x;struct s y;int main(void){x=y;return 0;}" ∷
    ("static char a[2]={\"a\",1};int main(void){return 0;}", at 14 "string" 0 ∷ at 8 "string" 0 ∷ []) ∷
    keeps "static char a[2]={\"a\"};int main(void){return 0;}" ∷
    breaks "int*p;int main(void){int*q={0},*r={p},i={p};return 0;}" 14 "var p" 1 ∷
    keeps "int*p;int main(void){int*q={0},*r={p},i={0};return 0;}" ∷
    breaks "int f(int*p){return p;}int main(void){return 0;}" 14 "var p" 0 ∷
    keeps "_Bool f(int*p){return p;}int main(void){return 0;}" ∷
    breaks "int*f(void){return 0;}int main(void){char*q=f();return 0;}" 14 "call" 0 ∷
    keeps "int*f(void){return 0;}int main(void){void*q=f();return 0;}" ∷
    breaks "int f(int(*g)(void));int(*h)(int);int main(void){return f(h);}int f(int(*g)(void)){return 0;}" 14 "var h" 0 ∷
    keeps "int f(int(*g)(void));int(*h)(void);int main(void){return f(h);}int f(int(*g)(void)){return 0;}" ∷
    breaks "static int a[2][3];int main(void){int*p=a;return 0;}" 14 "var a" 0 ∷
    keeps "static int a[2][3];int main(void){int(*p)[3]=a;return 0;}" ∷ []

rule_14_holds : Hold rule_14
unfolding holds
rule_14_holds = refl

-- rule 15, `wrong number of arguments`
abbrev pub rule_15 : List Row
rule_15 =
    breaks "int f(int a){return a;}int main(void){return f();}" 15 "call" 0 ∷
    keeps "int f(int a){return a;}int main(void){return f(1);}" ∷
    breaks "int f(){return 1;}int main(void){return f(1);}" 15 "call" 0 ∷
    keeps "int f(){return 1;}int main(void){return f();}" ∷ []

rule_15_holds : Hold rule_15
unfolding holds
rule_15_holds = refl

-- rule 16, `not a function`
abbrev pub rule_16 : List Row
rule_16 =
    breaks "int x;int main(void){return x();}" 16 "call" 0 ∷
    keeps "int x(void){return 1;}int main(void){return(x)();}" ∷
    breaks "typedef int f(void);f g{return 1;}int main(void){return 0;}" 16 "name g" 0 ∷
    keeps "int(g)(void){return 1;}int main(void){return 0;}" ∷
    breaks "int(*p)(void);int main(void){return p();}" 16 "call" 0 ∷
    keeps "int(*p)(void);int main(void){return p==0;}" ∷
    breaks "int(*f)(void){return 1;}int main(void){return 0;}" 16 "takes" 0 ∷
    keeps "int*f(void){return 0;}int main(void){return 0;}" ∷
    breaks "int main(void){return 1();}" 16 "call" 0 ∷
    keeps "int f(void){return 1;}int main(void){return((f))();}" ∷ []

rule_16_holds : Hold rule_16
unfolding holds
rule_16_holds = refl

-- rule 17, `no definition`
abbrev pub rule_17 : List Row
rule_17 =
    breaks "int f(void);int main(void){return f();}" 17 "var f" 0 ∷
    keeps "int f(void);int main(void){return f();}int f(void){return 0;}" ∷
    breaks "extern int x;int main(void){return sizeof x;}" 17 "var x" 0 ∷
    keeps "extern int x;int main(void){return sizeof x;}int x;" ∷
    breaks "extern int getchars(void);int main(void){return getchars();}" 17 "var getchars" 0 ∷
    keeps "extern int getchar(void);int main(void){return getchar();}" ∷
    breaks "typedef int f(void);f g;int main(void){return g();}" 17 "var g" 0 ∷
    keeps "typedef int f(void);f g;int main(void){return g();}int g(void){return 0;}" ∷
    breaks "int g(void);int x=sizeof g();int main(void){return 0;}" 17 "var g" 0 ∷
    keeps "int g(void);int x=sizeof g();int g(void){return 0;}int main(void){return 0;}" ∷ []

rule_17_holds : Hold rule_17
unfolding holds
rule_17_holds = refl

-- rule 18, `bad return`
abbrev pub rule_18 : List Row
rule_18 =
    breaks "void f(void){return 1;}int main(void){return 0;}" 18 "return" 0 ∷
    keeps "void f(void){return;}int main(void){return 0;}" ∷
    breaks "int main(void){return;}" 18 "return" 0 ∷
    keeps "int main(void){}" ∷
    breaks "void f(void){}void g(void){return f();}int main(void){return 0;}" 18 "return" 0 ∷
    keeps "void f(void){}void g(void){f();return;}int main(void){return 0;}" ∷ []

rule_18_holds : Hold rule_18
unfolding holds
rule_18_holds = refl

-- rule 19, `outside a loop`
abbrev pub rule_19 : List Row
rule_19 =
    breaks "int main(void){break;}" 19 "break" 0 ∷
    keeps "int main(void){while(1)break;}" ∷
    breaks "int main(void){switch(1){case 1:continue;}}" 19 "continue" 0 ∷
    keeps "int main(void){do switch(1){case 1:continue;}while(0);}" ∷
    breaks "int main(void){while(0);continue;}" 19 "continue" 0 ∷
    keeps "int main(void){for(;;){if(1)continue;}}" ∷ []

rule_19_holds : Hold rule_19
unfolding holds
rule_19_holds = refl

-- rule 20, `more than 8 parameters`
abbrev pub rule_20 : List Row
rule_20 =
    breaks "int f(int a,int b,int c,int d,int e,int f,int g,int h,int i);int main(void){return 0;}" 20 "takes" 0 ∷
    keeps "int f(int a,int b,int c,int d,int e,int f,int g,int h);int main(void){return 0;}" ∷ []

rule_20_holds : Hold rule_20
unfolding holds
rule_20_holds = refl

-- rule 21, `bad parameter or result`
abbrev pub rule_21 : List Row
rule_21 =
    breaks "struct s{int a;};struct s f(void);int main(void){return 0;}" 21 "takes" 0 ∷
    keeps "struct s{int a;};struct s*f(void);int main(void){return 0;}" ∷
    breaks "struct s{int a;};int f(struct s x);int main(void){return 0;}" 21 "takes" 0 ∷
    keeps "struct s{int a;};int f(struct s*x);int main(void){return 0;}" ∷
    breaks "int f(int g(void));int main(void){return 0;}" 21 "takes" 1 ∷
    keeps "int f(int(*g)(void));int main(void){return 0;}" ∷
    breaks "int f(void)[2];int main(void){return 0;}" 21 "takes" 0 ∷
    keeps "int(*f(void))[2];int main(void){return 0;}" ∷
    breaks "typedef int t[2];t f(void);int main(void){return 0;}" 21 "takes" 0 ∷
    keeps "typedef int t[2];int f(t a){return *a;}int main(void){return 0;}" ∷ []

rule_21_holds : Hold rule_21
unfolding holds
rule_21_holds = refl

-- rule 22, `bad main`
abbrev pub rule_22 : List Row
rule_22 =
    breaks "int f(void){return 0;}" 22 "unit" 0 ∷
    keeps "int main(void){return 0;}" ∷
    breaks "int main(int a){return 0;}" 22 "takes" 0 ∷
    keeps "int main(){return 0;}" ∷
    breaks "void main(void){}" 22 "takes" 0 ∷
    keeps "int main(void){}" ∷
    breaks "int main;" 22 "unit" 0 ∷
    keeps "typedef int t;t main(void){return 0;}" ∷ []

rule_22_holds : Hold rule_22
unfolding holds
rule_22_holds = refl

-- rule 23, `bad getchar or putchar`
abbrev pub rule_23 : List Row
rule_23 =
    breaks "int getchar(int c);int main(void){return 0;}" 23 "takes" 0 ∷
    keeps "int getchar(void);int main(void){return 0;}" ∷
    breaks "int putchar(int c){return c;}int main(void){return 0;}" 23 "takes" 0 ∷
    keeps "int putchar(int c);int main(void){return 0;}" ∷
    breaks "enum{getchar};int main(void){return 0;}" 23 "enumer getchar" 0 ∷
    keeps "struct getchar{int putchar;};int main(void){return 0;}" ∷
    breaks "int f(int putchar);int main(void){return 0;}" 23 "name putchar" 0 ∷
    keeps "int f(int put);int main(void){return 0;}" ∷
    breaks "static int putchar;int main(void){return 0;}" 23 "name putchar" 0 ∷
    keeps "struct putchar*p;int main(void){return 0;}" ∷
    breaks "typedef int getchar;int main(void){return 0;}" 23 "name getchar" 0 ∷
    keeps "extern int getchar(void);int main(void){return 0;}" ∷ []

rule_23_holds : Hold rule_23
unfolding holds
rule_23_holds = refl

-- rule 24, `bad initializer`
abbrev pub rule_24 : List Row
rule_24 =
    breaks "static int a[1]={1,2};int main(void){return 0;}" 24 "braces" 0 ∷
    keeps "static int a[2]={1};int main(void){return 0;}" ∷
    breaks "static char a[2]=\"abc\";int main(void){return 0;}" 24 "string" 0 ∷
    keeps "static char a[3]=\"abc\";int main(void){return 0;}" ∷
    ("static int a[2][1]={1,2};int main(void){return 0;}", at 24 "int" 2 ∷ at 24 "int" 3 ∷ []) ∷
    keeps "static int a[2][1]={{1},{2}};int main(void){return 0;}" ∷
    breaks "int x={{1}};int main(void){return 0;}" 24 "braces" 0 ∷
    keeps "int x={1};int main(void){return 0;}" ∷
    breaks "typedef int t=1;int main(void){return 0;}" 24 "int" 0 ∷
    keeps "typedef int t;int main(void){return 0;}" ∷
    breaks "static int a[1]=1;int main(void){return 0;}" 24 "int" 1 ∷
    keeps "static int a[1]={1};int main(void){return 0;}" ∷
    breaks "int f(void)=1;int main(void){return 0;}" 24 "int" 0 ∷
    keeps "extern int f=1;int main(void){return 0;}" ∷
    breaks "struct s{int a;};static struct s x={1},y=x;int main(void){return 0;}" 24 "var x" 0 ∷
    keeps "struct s{int a;};static struct s x={1},y={1};int main(void){return 0;}" ∷
    breaks "int x={1,2};int main(void){return 0;}" 24 "braces" 0 ∷
    keeps "static int x[]={1,2};int main(void){return 0;}" ∷
    breaks "static char a[1][2]={\"abc\"};int main(void){return 0;}" 24 "string" 0 ∷
    keeps "static char a[1][2]={\"ab\"};int main(void){return 0;}" ∷
    breaks "static char a[3]=(\"ab\");int main(void){return 0;}" 24 "paren" 0 ∷
    keeps "static char a[3]={\"ab\"};int main(void){return 0;}" ∷
    breaks "struct s{int a;char b[2];};static struct s x={1,2};int main(void){return 0;}" 24 "int" 2 ∷
    keeps "struct s{int a;char b[2];};static struct s x={1,{2}};int main(void){return 0;}" ∷ []

rule_24_holds : Hold rule_24
unfolding holds
rule_24_holds = refl

-- rule 25, `function as value`
abbrev pub rule_25 : List Row
rule_25 =
    breaks "int f(void){return f==0;}int main(void){return 0;}" 25 "var f" 0 ∷
    keeps "int f(void){return f()==0;}int main(void){return 0;}" ∷
    breaks "int f(void){return 0;}int main(void){return sizeof f;}" 25 "var f" 0 ∷
    keeps "int f(void){return 0;}int main(void){return sizeof f();}" ∷
    breaks "int f(void){return 0;}int main(void){return &f==0;}" 25 "var f" 0 ∷
    keeps "int f(void){return 0;}int main(void){return((f))();}" ∷
    breaks "int f(void){return 0;}int(*p)(void)=f;int main(void){return 0;}" 25 "var f" 0 ∷
    keeps "int f(void){return 0;}int(*p)(void)=0;int main(void){return 0;}" ∷ []

rule_25_holds : Hold rule_25
unfolding holds
rule_25_holds = refl

-- rule 26, `case twice`
abbrev pub rule_26 : List Row
rule_26 =
    breaks "int main(void){switch(1){case 1:case 1:return 0;}return 1;}" 26 "case" 1 ∷
    keeps "int main(void){switch(1){case 1:case 2:return 0;}return 1;}" ∷
    breaks "int main(void){switch(1){default:;default:return 0;}return 1;}" 26 "default" 1 ∷
    keeps "int main(void){switch(1){default:switch(2){default:return 0;}}return 1;}" ∷
    breaks "int main(void){switch(1u){case -1:;case 4294967295u:;}}" 26 "case" 1 ∷
    keeps "int main(void){switch(1u){case -1:;case 1:;}}" ∷
    breaks "int main(void){switch(1){case 256:;case(char)256:;case 0:;}}" 26 "case" 2 ∷
    keeps "int main(void){switch(1){case 256:;case(char)256:;case 1:;}}" ∷ []

rule_26_holds : Hold rule_26
unfolding holds
rule_26_holds = refl

-- rule 27, `struct too big to assign`
abbrev pub rule_27 : List Row
rule_27 =
    breaks "struct s{char a[1025];}x,y;int main(void){x=y;return 0;}" 27 "assign =" 0 ∷
    keeps "struct s{char a[1024];}x,y;int main(void){x=y;return 0;}" ∷ []

rule_27_holds : Hold rule_27
unfolding holds
rule_27_holds = refl
