-- Units that break a rule on constants or expressions, and behind each its nearest neighbour that breaks none.
use Rattle.std.proofs.Common.{List, [], ◌∷◌, refl}
use Rattle.c_typing.proofs.Texts.{Row, breaks, keeps, Hold, holds}

-- rule 8, `not constant`
abbrev pub rule_8 : List Row
rule_8 =
    breaks "int n;static int a[n];int main(void){return 0;}" 8 "var n" 0 ∷
    keeps "enum{n=1};static int a[n];int main(void){return 0;}" ∷
    breaks "int n;int x=n;int main(void){return 0;}" 8 "var n" 0 ∷
    keeps "int n;int x=sizeof n;int main(void){return 0;}" ∷
    breaks "int n;enum{A=n};int main(void){return 0;}" 8 "var n" 0 ∷
    keeps "enum{n,A=n};int main(void){return 0;}" ∷
    breaks "int f(int n){switch(n){case n:;}return 0;}int main(void){return 0;}" 8 "var n" 1 ∷
    keeps "int f(int n){switch(n){case 1?2:3:;}return 0;}int main(void){return 0;}" ∷
    breaks "int n;static int*p=&n+n;int main(void){return 0;}" 8 "binary +" 0 ∷
    keeps "int n;static int*p=1+&n;int main(void){return 0;}" ∷
    breaks "struct s{int a[2];}x;static int*p=x.a;int main(void){return 0;}" 8 "dot a" 0 ∷
    keeps "struct s{int a[2];}x;static int*p=&x.a[1];int main(void){return 0;}" ∷
    breaks "static _Bool b=\"a\";int main(void){return 0;}" 8 "string" 0 ∷
    keeps "static char*b=\"a\";int main(void){return 0;}" ∷
    breaks "static char*p=(char*)1;int main(void){return 0;}" 8 "cast" 0 ∷
    keeps "static char*p=(char*)0;int main(void){return 0;}" ∷
    breaks "int n;int x=1||n;int main(void){return 0;}" 8 "binary ||" 0 ∷
    keeps "int x=1||1/0;int main(void){return 0;}" ∷
    breaks "static int*g;static int*q=&g[1];int main(void){return 0;}" 8 "unary &" 0 ∷
    keeps "static int g[2];static int*q=&g[1];int main(void){return 0;}" ∷
    breaks "static int g[2][2];static int*q=g[1];int main(void){return 0;}" 8 "index" 0 ∷
    keeps "static int g[2][2];static int*q=&(g[1][1]);int main(void){return 0;}" ∷
    breaks "int f(void){return 1;}static int a[0&&f()];int main(void){return 0;}" 8 "binary &&" 0 ∷
    keeps "static int a[0||sizeof(1/0)];int main(void){return 0;}" ∷
    breaks "static int a[(1,2)];int main(void){return 0;}" 8 "paren" 0 ∷
    keeps "static int a[(2)];int main(void){return 0;}" ∷
    breaks "static int x=(int)\"a\";int main(void){return 0;}" 8 "cast" 0 ∷
    keeps "static int x=(int)'a';int main(void){return 0;}" ∷
    breaks "int main(void){static int a=1;static int b=a;return b;}" 8 "var a" 0 ∷
    keeps "int main(void){static int a=1;static int*b=&a;return *b;}" ∷
    breaks "int f(void){return 0;}int x=f();int main(void){return 0;}" 8 "call" 0 ∷
    keeps "int f(void){return 0;}int x=sizeof f();int main(void){return 0;}" ∷ []

rule_8_holds : Hold rule_8
unfolding holds
rule_8_holds = refl

-- rule 9, `constant out of range`
abbrev pub rule_9 : List Row
rule_9 =
    breaks "static int a[1/0];int main(void){return 0;}" 9 "binary /" 0 ∷
    keeps "static int a[1/1];int main(void){return 0;}" ∷
    breaks "int x=2147483647+1;int main(void){return 0;}" 9 "binary +" 0 ∷
    keeps "int x=2147483647+1u;int main(void){return 0;}" ∷
    breaks "enum{A=2147483648u};int main(void){return 0;}" 9 "int" 0 ∷
    keeps "enum{A=2147483647u};int main(void){return 0;}" ∷
    breaks "enum{A=2147483647,B};int main(void){return 0;}" 9 "enumer B" 0 ∷
    keeps "enum{A=2147483646,B};int main(void){return 0;}" ∷
    breaks "int x=1<<32;int main(void){return 0;}" 9 "binary <<" 0 ∷
    keeps "int x=0&&1<<32;int main(void){return 0;}" ∷
    breaks "static int g[2];static int*q=&g[1/0];int main(void){return 0;}" 9 "binary /" 0 ∷
    keeps "static int g[2];static int*q=g+1/1;int main(void){return 0;}" ∷
    breaks "int f(int n){switch(n){case 1<<-1:;}return 0;}int main(void){return 0;}" 9 "binary <<" 0 ∷
    keeps "int f(int n){switch(n){case 1?1:1<<-1:;}return 0;}int main(void){return 0;}" ∷
    breaks "int x=-2147483647-2;int main(void){return 0;}" 9 "binary -" 0 ∷
    keeps "int x=-2147483647-1;int main(void){return 0;}" ∷
    breaks "int x=(-2147483647-1)/-1;int main(void){return 0;}" 9 "binary /" 0 ∷
    keeps "int x=(-2147483647-1)/1;int main(void){return 0;}" ∷
    breaks "int x=-1<<1;int main(void){return 0;}" 9 "binary <<" 0 ∷
    keeps "int x=-1>>1;int main(void){return 0;}" ∷ []

rule_9_holds : Hold rule_9
unfolding holds
rule_9_holds = refl

-- rule 10, `local array or struct`
abbrev pub rule_10 : List Row
rule_10 =
    breaks "int main(void){int a[2];return 0;}" 10 "array" 0 ∷
    keeps "int main(void){static int a[2];return 0;}" ∷
    breaks "struct s{int a;};int main(void){struct s x;return 0;}" 10 "name x" 0 ∷
    keeps "struct s{int a;};int main(void){struct s*x;return 0;}" ∷
    breaks "int main(void){char s[]=\"a\";return 0;}" 10 "array" 0 ∷
    keeps "int main(void){char*s=\"a\";return 0;}" ∷ []

rule_10_holds : Hold rule_10
unfolding holds
rule_10_holds = refl

-- rule 11, `address of a local`
abbrev pub rule_11 : List Row
rule_11 =
    breaks "int main(void){int x=1;int*p=&x;return *p;}" 11 "unary &" 0 ∷
    keeps "int x=1;int main(void){int*p=&x;return *p;}" ∷
    breaks "int f(int a){return &(a)==0;}int main(void){return 0;}" 11 "unary &" 0 ∷
    keeps "int f(int*a){return &*a==0;}int main(void){return 0;}" ∷ []

rule_11_holds : Hold rule_11
unfolding holds
rule_11_holds = refl

-- rule 12, `not assignable`
abbrev pub rule_12 : List Row
rule_12 =
    breaks "int main(void){1=2;return 0;}" 12 "assign =" 0 ∷
    keeps "int x;int main(void){x=2;return 0;}" ∷
    breaks "static int a[1],b[1];int main(void){a=b;return 0;}" 12 "assign =" 0 ∷
    keeps "static int a[1],b[1];int main(void){*a=*b;return 0;}" ∷
    breaks "int x;int main(void){return (x+1)++;}" 12 "post ++" 0 ∷
    keeps "int x;int main(void){return (x)++;}" ∷
    breaks "int x;int*p;int main(void){p=&(x,x);return 0;}" 12 "unary &" 0 ∷
    keeps "int x;int*p;int main(void){p=&(x);return 0;}" ∷
    breaks "int x;int main(void){(x,x)+=1;return 0;}" 12 "assign +=" 0 ∷
    keeps "int x;int main(void){(x)+=1;return 0;}" ∷
    breaks "static int a[1];int main(void){a++;return 0;}" 12 "post ++" 0 ∷
    keeps "static int a[1];int main(void){a[0]++;return 0;}" ∷
    breaks "struct s{int x;}a,b;int main(void){(a=b).x=1;return 0;}" 12 "assign =" 1 ∷
    keeps "struct s{int x;}a,b;int main(void){(a=b,&b)->x=1;return 0;}" ∷
    breaks "struct s{int x[2];}a,b;int main(void){return &(a=b).x[0]==&(a=b).x;}" 12 "unary &" 1 ∷
    keeps "struct s{int x[2];}a,b;int main(void){return &(a=b).x[0]==a.x;}" ∷ []

rule_12_holds : Hold rule_12
unfolding holds
rule_12_holds = refl

-- rule 13, `bad operand`
abbrev pub rule_13 : List Row
rule_13 =
    breaks "int*p;int main(void){return p*2;}" 13 "binary *" 0 ∷
    keeps "int*p;int main(void){return *p*2;}" ∷
    breaks "int*p;int main(void){return p+p!=0;}" 13 "binary +" 0 ∷
    keeps "int*p;int main(void){return p-p!=0;}" ∷
    breaks "void*p;int main(void){return p+1!=0;}" 13 "binary +" 0 ∷
    keeps "char*p;int main(void){return p+1!=0;}" ∷
    breaks "int*p;char*q;int main(void){return p-q;}" 13 "binary -" 0 ∷
    keeps "int*p;int*q;int main(void){return p-q;}" ∷
    breaks "int*p;char*q;int main(void){return p<q;}" 13 "binary <" 0 ∷
    keeps "int*p;int*q;int main(void){return p<q;}" ∷
    breaks "int*p;char*q;int main(void){return p==q;}" 13 "binary ==" 0 ∷
    keeps "int*p;void*q;int main(void){return p==q;}" ∷
    breaks "int*p;int main(void){return p==1;}" 13 "binary ==" 0 ∷
    keeps "int*p;int main(void){return p==1-1;}" ∷
    breaks "int*p;int main(void){return ~p;}" 13 "unary ~" 0 ∷
    keeps "int*p;int main(void){return !p;}" ∷
    breaks "struct s{int a;}x;int main(void){if(x)return 1;return 0;}" 13 "if" 0 ∷
    keeps "struct s{int a;}*x;int main(void){if(x)return 1;return 0;}" ∷
    breaks "void f(void){}int main(void){while(f());return 0;}" 13 "while" 0 ∷
    keeps "void f(void){}int main(void){while(f(),0);return 0;}" ∷
    breaks "int*p;int main(void){switch(p){case 0:;}return 0;}" 13 "switch" 0 ∷
    keeps "char p;int main(void){switch(p){case 0:;}return 0;}" ∷
    breaks "int*p;char*q;int main(void){return(1?p:q)!=0;}" 13 "cond" 0 ∷
    keeps "int*p;void*q;int main(void){return(1?p:q)!=0;}" ∷
    breaks "int x;int main(void){return x[1];}" 13 "index" 0 ∷
    keeps "int*x;int main(void){return 1[x];}" ∷
    breaks "int x;int main(void){return *x;}" 13 "unary *" 0 ∷
    keeps "int*x;int main(void){return *x;}" ∷
    breaks "int x;int*p;int main(void){p-=p;return 0;}" 13 "assign -=" 0 ∷
    keeps "int x;int*p;int main(void){p-=x;return 0;}" ∷
    breaks "struct s{int a;}x;int main(void){return(int)x;}" 13 "cast" 0 ∷
    keeps "struct s{int a;}x;int main(void){return(void)x,0;}" ∷
    breaks "void*p;int main(void){p++;return 0;}" 13 "post ++" 0 ∷
    keeps "char*p;int main(void){p++;return 0;}" ∷
    breaks "void f(void){}int main(void){return -f();}" 13 "unary -" 0 ∷
    keeps "int f(void){return 1;}int main(void){return -f();}" ∷
    breaks "int*p;int main(void){return(1?p:1)!=0;}" 13 "cond" 0 ∷
    keeps "int*p;int main(void){return(1?p:0)!=0;}" ∷
    breaks "struct s{int x;}a;struct t{int x;}b;int main(void){return 1?a:b,0;}" 13 "cond" 0 ∷
    keeps "struct s{int x;}a,b;int main(void){return 1?a:b,0;}" ∷
    breaks "void f(void){}int main(void){return 1?f():0,0;}" 13 "cond" 0 ∷
    keeps "void f(void){}int main(void){return 1?f():(void)0,0;}" ∷
    breaks "int*p;int i;int main(void){i+=p;return 0;}" 13 "assign +=" 0 ∷
    keeps "int*p;int i;int main(void){p+=i;return 0;}" ∷
    breaks "struct s*p,*q;int main(void){return p-q;}" 13 "binary -" 0 ∷
    keeps "struct s{int x;}*p,*q;int main(void){return p-q;}" ∷ []

rule_13_holds : Hold rule_13
unfolding holds
rule_13_holds = refl
